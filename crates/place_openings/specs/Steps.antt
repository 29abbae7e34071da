-- How many calls the openings of a session take at most before the next turn.
use Rattle.std.specs.Prelude.{ℕ, ◌+◌, Bool, true, false, not, ◌&&◌, List, [], ◌∷◌, if◌then◌else◌}
use Rattle.std.specs.List.{list_any}
use Rattle.relay_model.specs.{Place, Config, same_place, door_of, has_own_door, Stage}
use Rattle.relay_model.specs.declared.stages.Stage.TheVariants.{Untried, Usable, Unsettled, Failed, Met, Waiting, Gone}
use Rattle.place_openings.specs.declared.one_place.Opening.{Opening}

-- the calls left at a place or door: an opening or a settling, and a closing; none further after a try that failed
-- since the last turn
abbrev pub stage_weight : Stage → (woken tried : Bool) → ℕ
stage_weight Untried woken tried = 2
stage_weight Usable woken tried = 1
stage_weight Unsettled woken tried = if woken then 2 else 1
stage_weight Failed woken tried = if tried then 0 else 2
stage_weight (Met peer) woken tried = 1
stage_weight Waiting woken tried = 1
stage_weight (Gone why) woken tried = 0

-- this number, unless a test holds
abbrev pub left_unless : Bool → ℕ → ℕ
left_unless true n = 0
left_unless false n = n

-- the calls left at the own door; a peer that is accepted may have to be refused too, so an accepting counts twice
abbrev pub door_steps : Opening → ℕ
door_steps o = if o.has_door then stage_weight o.door false o.tried + left_unless o.asked 2 else 0

-- the calls left at the place and at its own door, with the question what became of its child
abbrev pub steps_of : Opening → ℕ
steps_of o = stage_weight o.stage o.woken o.tried + door_steps o + left_unless o.asked_child 1

-- how many calls openings take at most before the next turn
abbrev pub steps_in : List Opening → ℕ
steps_in [] = 0
steps_in (o ∷ os) = steps_of o + steps_in os

-- how many calls an opening takes at most between two turns: three at the place, and four at an own door
abbrev pub most_of : Opening → ℕ
most_of o = if o.has_door then 7 else 3

-- how many calls openings take at most between two turns
abbrev pub most_in : List Opening → ℕ
most_in [] = 0
most_in (o ∷ os) = most_of o + most_in os

-- how many calls a place takes at most between two turns, by what the command says of it
abbrev pub calls_at : Config → Place → ℕ
calls_at c p = if has_own_door c p then 7 else 3

-- how many calls these places take at most between two turns
abbrev pub calls_among : Config → List Place → ℕ
calls_among c [] = 0
calls_among c (p ∷ ps) = calls_at c p + calls_among c ps

-- whether a place or door is the one of this opening
abbrev pub is_place : Place → Opening → Bool
is_place q o = same_place q o.place

-- the thing is the opening's own door
abbrev pub is_own_door : Place → Opening → Bool
is_own_door q o = o.has_door && same_place q (door_of o.place)

-- whether the child of this place was asked for
abbrev pub asked_by : Place → Opening → Bool
asked_by p o = o.asked_child && same_place p o.place

-- it was asked what became of the child of this place
abbrev pub has_asked : List Opening → Place → Bool
has_asked os p = list_any (asked_by p) os

-- whether it is asked for the first time what became of the child of this opening
abbrev pub asks_child : Place → Opening → Bool
asks_child q o = is_place q o && not o.asked_child
