-- What a plan says after some failures, the moments of which stand newest first.
use Rattle.std.specs.Prelude.{◌≡◌, ℕ, ◌-◌, ◌^◌, Bool, min, List, [], ◌∷◌, length, Option, Some, None, if◌then◌else◌}
use Rattle.relay_model.specs.{is_out_of_tries, next_due}
use Rattle.retry_plan.specs.declared.NextTry.{NextTry}
use Rattle.retry_plan.specs.declared.NextTry.TheVariants.{Now, At, Never, GiveUp}
use Rattle.retry_plan.specs.Ledger.{PlanLedger}

-- the number of failures; it stays at the greatest count
abbrev pub attempts_of : List ℕ → ℕ
attempts_of failures = min (length failures) (2 ^ 64 - 1)

-- the newest failure
abbrev pub last_of : List ℕ → Option ℕ
last_of [] = None
last_of (failed_at ∷ failures) = Some failed_at

-- a plan with these terms stands for these failures
pub record PlanIs (retry : ℕ) (forever : Bool) (interval : ℕ) (failures : List ℕ) (plan : PlanLedger) : Type 0 where
  pub retry_is : plan.retry ≡ retry
  pub forever_is : plan.forever ≡ forever
  pub interval_is : plan.interval ≡ interval
  pub attempts_is : plan.attempts ≡ attempts_of failures
  pub last_is : plan.last ≡ last_of failures

-- at this moment, or never where there is none
abbrev pub at_or_never : Option ℕ → NextTry
at_or_never None = Never
at_or_never (Some due) = At due

-- when the next try comes
abbrev pub next_try : ℕ → Bool → ℕ → List ℕ → NextTry
next_try retry forever interval [] = Now
next_try retry forever interval (failed_at ∷ failures) =
    if is_out_of_tries retry forever (failed_at ∷ failures) then GiveUp (attempts_of (failed_at ∷ failures)) else at_or_never (next_due interval (failed_at ∷ failures))
