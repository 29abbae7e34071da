-- Where no try is left, and how many failed there.
use Rattle.std.specs.Prelude.{◌≡◌, ℕ, ◌<◌, ◌-◌, ◌^◌, Bool, true, false, List, [], ◌∷◌, Option, Some, None}
use Rattle.relay_model.specs.{Side, Place, Config, Act, only_if, or_else, options_of, failures, is_out_of_tries, out_of_tries}
use Rattle.retry_plan.specs.{attempts_of, NextTry}
use Rattle.retry_plan.specs.declared.NextTry.TheVariants.{Now, At, Never, GiveUp}
use Rattle.place_openings.specs.Queries.{gave_up}
use Rattle.place_openings.specs.Stands.{tried_at}
use Rattle.place_openings.specs.declared.given_up.GivenUp.{GivenUp}

-- ---- what the openings of a session tell

-- the first of these places at which no try is left
abbrev pub first_unopened : Config → List Act → List Place → Option GivenUp
first_unopened c past [] = None
first_unopened c past (p ∷ ps) = or_else (only_if (out_of_tries c past p) (record { side = p.side; attempts = attempts_of (failures past p) })) (first_unopened c past ps)

-- how many listenings failed at the first of these doors at which no try is left
abbrev pub first_unlistened : Config → List Act → List Place → Option ℕ
first_unlistened c past [] = None
first_unlistened c past (d ∷ ds) = or_else (only_if (out_of_tries c past d) (attempts_of (failures past d))) (first_unlistened c past ds)

-- the failures that may be followed by a try, and one more, can be counted
abbrev pub CanCount : Config → Place → Type 0
CanCount c p = (options_of c p).tries.retry < 2 ^ 64 - 1

-- that holds at the first of these places or doors at which no try is left
abbrev pub FirstCanCount : Config → List Act → List Place → Type 0
FirstCanCount c past [] = Unit {0}
FirstCanCount c past (p ∷ ps) = (out_of_tries c past p ≡ true → CanCount c p) × (out_of_tries c past p ≡ false → FirstCanCount c past ps)

-- ---- what one opening tells

-- how many tries failed, where none is left
abbrev pub attempts_in : NextTry → Option ℕ
attempts_in Now = None
attempts_in (At due) = None
attempts_in Never = None
attempts_in (GiveUp attempts) = Some attempts

-- what is told of a place on this side, where it is meant and no try is left after so many failures
abbrev pub given_up_by : Side → Bool → Option ℕ → Option GivenUp
given_up_by side is_meant None = None
given_up_by side is_meant (Some attempts) = only_if is_meant (record { side = side; attempts = attempts })

-- how many tries failed at a side that was given up
abbrev pub attempts_told : Option GivenUp → Option ℕ
attempts_told None = None
attempts_told (Some given_up) = Some given_up.attempts

-- no try is left after these failures
pub record AreSpent (retry : ℕ) (forever : Bool) (failures : List ℕ) (attempts : ℕ) : Type 0 where
  pub out : is_out_of_tries retry forever failures ≡ true
  pub attempts_is : attempts ≡ attempts_of failures
  pub can_count : retry < 2 ^ 64 - 1

-- how many failed, if no try is left
abbrev pub Spends : ℕ → Bool → List ℕ → Option ℕ → Type 0
Spends retry forever failures None = is_out_of_tries retry forever failures ≡ false
Spends retry forever failures (Some attempts) = AreSpent retry forever failures attempts

-- no try is left at a place that has an own door, or at one that has none
pub record IsGivenUp (c : Config) (past : List Act) (has_door : Bool) (p : Place) (given_up : GivenUp) : Type 0 where
  pub out : gave_up c past has_door p ≡ true
  pub side_is : given_up.side ≡ p.side
  pub attempts_is : given_up.attempts ≡ attempts_of (failures past (tried_at has_door p))
  pub can_count : CanCount c p

-- whether the place or its door was given up, and with which side and tries
abbrev pub GivesUp : Config → List Act → Bool → Place → Option GivenUp → Type 0
GivesUp c past has_door p None = gave_up c past has_door p ≡ false
GivesUp c past has_door p (Some given_up) = IsGivenUp c past has_door p given_up

-- the answer is that of the first of these places at which no try is left
abbrev pub FirstGivesUp : Config → List Act → Bool → List Place → Option GivenUp → Type 0
FirstGivesUp c past has_door [] answer = answer ≡ None
FirstGivesUp c past has_door (p ∷ ps) answer = (gave_up c past has_door p ≡ true → GivesUp c past has_door p answer) × (gave_up c past has_door p ≡ false → FirstGivesUp c past has_door ps answer)
