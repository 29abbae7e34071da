-- What a plan keeps.
use Rattle.std.specs.Prelude.{ℕ, Bool, Option}

-- its terms, how often it failed, and when it failed last
pub record PlanLedger : Type 0 where
  pub retry : ℕ
  pub forever : Bool
  pub interval : ℕ
  pub attempts : ℕ
  pub last : Option ℕ
