-- Which sessions there are. Without `fork` there is session 0 alone; with it each permitted peer is one, numbered
-- from 0 in order.
use Rattle.std.specs.Prelude.{ℕ, Bool, ◌&&◌, ◌==◌, nat_lt, List, [], ◌∷◌, if◌then◌else◌}
use Rattle.std.specs.List.{list_any}
use Rattle.relay_model.specs.declared.places.Part.{Part}
use Rattle.relay_model.specs.declared.places.Part.TheVariants.{Both}
use Rattle.relay_model.specs.declared.places.Side.TheVariants.{Left}
use Rattle.relay_model.specs.declared.places.Place.{Place}
use Rattle.relay_model.specs.declared.commands.Config.{Config}
use Rattle.relay_model.specs.declared.commands.Options.{Options}
use Rattle.relay_model.specs.declared.acts.Peer.{Peer}
use Rattle.relay_model.specs.declared.acts.Act.{Act}
use Rattle.relay_model.specs.declared.acts.Act.TheVariants.{Accepted}
use Rattle.relay_model.specs.Choices.{count, one_more}
use Rattle.relay_model.specs.Configs.{things, parts, place_at, options_of, has_fork, is_left, program_door}
use Rattle.relay_model.specs.Permits.{is_permitted}
use Rattle.relay_model.specs.History.{held}

-- whether a place takes this peer
abbrev pub permits : Config → Place → Peer → Bool
permits c p peer = is_permitted (options_of c p).admission peer

-- a permitted peer of the program door of `fork`
abbrev pub is_admission : Config → Place → Peer → Bool
is_admission c p peer = is_left p && has_fork c && permits c p peer

-- how many permitted peers there were, which is the number of the next session
abbrev pub admitted : Config → List Act → ℕ
admitted c [] = 0
admitted c (Accepted p peer ∷ past) = one_more (is_admission c p peer) (admitted c past)
admitted c (act ∷ past) = admitted c past

-- the session holds a place or a door of its own
abbrev pub holds : Config → List Act → ℕ → Bool
holds c past s = list_any (held past) (things c s)

-- a session lives: with `fork` where it has begun and holds something, without it if it is session 0
abbrev pub live : Config → List Act → ℕ → Bool
live c past s = if has_fork c then nat_lt s (admitted c past) && holds c past s else s == 0

-- how many sessions live
abbrev pub live_count : Config → List Act → ℕ
live_count c past = count (live c past) (admitted c past)

-- the sessions that have begun are those with numbers below this
abbrev pub numbers : Config → List Act → ℕ
numbers c past = if has_fork c then admitted c past else 1

-- the first part of a side
abbrev pub first_part : List Part → Part
first_part [] = Both
first_part (part ∷ parts) = part

-- the place that the next peer of the program door gets
abbrev pub next_place : Config → List Act → Place
next_place c past = place_at (admitted c past) Left (first_part (parts c Left))

-- the options of the program door's address
abbrev pub door_options : Config → Options
door_options c = options_of c program_door
