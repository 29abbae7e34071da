-- What the openings of a session stand for: each says of its place what the list of acts says.
use Rattle.std.specs.Prelude.{◌≡◌, ℕ, Bool, true, false, List, [], ◌∷◌, Some, if◌then◌else◌}
use Rattle.relay_model.specs.{Place, ReadyAt, Config, Act, Listed, door_of, places, options_of, medium_of, is_program, listens_at, has_own_door, now}
use Rattle.relay_model.specs.{stage, woken, failures, was_closed, was_reaped, armed_to_accept, asked_to_accept}
use Rattle.retry_plan.specs.{PlanIs, last_of}
use Rattle.place_openings.specs.declared.one_place.Opening.{Opening}

-- where tries are made: at the place's own door, or at the place itself
abbrev pub tried_at : Bool → Place → Place
tried_at has_door p = if has_door then door_of p else p

-- an opening says of its place what the acts say
pub record IsOpening (c : Config) (past : List Act) (p : Place) (o : Opening) : Type 0 where
  -- what the command says of the place
  pub no_door : p.door ≡ false
  pub place_is : o.place ≡ p
  pub listens_is : o.listens ≡ listens_at c p
  pub has_door_is : o.has_door ≡ has_own_door c p
  pub is_child_is : o.is_child ≡ is_program (medium_of c p)
  pub filter_is : o.filter ≡ (options_of c p).admission
  -- how far the place has come
  pub stage_is : o.stage ≡ stage past p
  pub woken_is : o.woken ≡ woken past p
  -- how far its own door has come, and what was asked there
  pub door_is : o.has_door ≡ true → o.door ≡ stage past (door_of p)
  pub armed_is : o.has_door ≡ true → o.armed ≡ armed_to_accept past (door_of p)
  pub asked_is : o.has_door ≡ true → o.asked ≡ asked_to_accept c past (door_of p)
  -- the tries
  pub tries_are : PlanIs (options_of c p).tries.retry (options_of c p).tries.forever (options_of c p).tries.interval (failures past (tried_at o.has_door p)) o.plan
  pub tried_is : o.tried ≡ true → last_of (failures past (tried_at o.has_door p)) ≡ Some (now past)
  pub untried : o.listens ≡ true → failures past p ≡ []
  -- the child
  pub closed_is : o.is_child ≡ true → o.closed ≡ was_closed past p
  pub asked_child_is : was_reaped past p ≡ true → o.asked_child ≡ true

-- the openings of these places, in their order
abbrev pub Each : Config → List Act → List Place → List Opening → Type 0
Each c past [] [] = Unit {0}
Each c past [] (o ∷ os) = ⊥
Each c past (p ∷ ps) [] = ⊥
Each c past (p ∷ ps) (o ∷ os) = IsOpening c past p o × Each c past ps os

-- the openings of the places of a session
pub record AreOpenings (c : Config) (past : List Act) (s : ℕ) (os : List Opening) : Type 0 where
  pub each : Each c past (places c s) os

-- an opening says of the tries at its place what the acts say
pub record IsTried (c : Config) (past : List Act) (p : Place) (o : Opening) : Type 0 where
  pub listens_is : o.listens ≡ listens_at c p
  pub has_door_is : o.has_door ≡ has_own_door c p
  pub tries_are : PlanIs (options_of c p).tries.retry (options_of c p).tries.forever (options_of c p).tries.interval (failures past (tried_at o.has_door p)) o.plan
  pub untried : o.listens ≡ true → failures past p ≡ []

-- the openings of these places say so, in their order
abbrev pub EachTried : Config → List Act → List Place → List Opening → Type 0
EachTried c past [] [] = Unit {0}
EachTried c past [] (o ∷ os) = ⊥
EachTried c past (p ∷ ps) [] = ⊥
EachTried c past (p ∷ ps) (o ∷ os) = IsTried c past p o × EachTried c past ps os

-- what a turn names, as a list of acts keeps it
abbrev pub kept : List ReadyAt → Listed
kept entries = record { entries = entries; room = 0 }
