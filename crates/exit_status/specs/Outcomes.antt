-- How the outcome that is told stands to the one that a list of acts gives.
use Rattle.std.specs.Prelude.{◌≡◌, ℕ, ◌⊎◌, false, List, Option, Some, None}
use Rattle.relay_model.specs.{Config, Act, Why, Half, turns, holds_something, RunOutcome, outcome}
use Rattle.relay_model.specs.declared.acts.Why.TheVariants as whys
use Rattle.relay_model.specs.declared.places.Half.TheVariants.{ToRead, ToWrite}
use Rattle.relay_model.specs.Rest.{Rest}
use Rattle.relay_model.specs.declared.outcomes.RunOutcome.TheVariants as endings
use Rattle.exit_status.specs.declared.outcomes.EndWhy.{EndWhy}
use Rattle.exit_status.specs.declared.outcomes.EndWhy.TheVariants as ends
use Rattle.exit_status.specs.declared.outcomes.Op.{Op}
use Rattle.exit_status.specs.declared.outcomes.Op.TheVariants.{Reading, Writing}
use Rattle.exit_status.specs.declared.outcomes.Outcome.{Outcome as Told}
use Rattle.exit_status.specs.declared.outcomes.Outcome.TheVariants as told

-- the reason of an end, as the model has it
abbrev pub why_of : EndWhy → Why
why_of ends.Finished = whys.Finished
why_of ends.ClosingTime = whys.ClosingTime
why_of ends.Idle = whys.Idle
why_of ends.Served = whys.Served

-- the half at which a read or a write failed
abbrev pub half_of : Op → Half
half_of Reading = ToRead
half_of Writing = ToWrite

-- the outcome of a run, where what is told is one: a refusal and what is printed are not
abbrev pub outcome_of : Told → Option RunOutcome
outcome_of (told.Ended why) = Some (endings.Ended (why_of why))
outcome_of told.Told = None
outcome_of told.Loaded = None
outcome_of (told.Refused refused) = None
outcome_of (told.OpenFailed side attempts) = Some (endings.OpenFailed side attempts)
outcome_of (told.ListenFailed attempts) = Some (endings.ListenFailed attempts)
outcome_of told.AcceptFailed = Some endings.AcceptFailed
outcome_of (told.Faulted place op) = Some (endings.Faulted place (half_of op))
outcome_of (told.Stopped turns) = Some (endings.Stopped turns)
outcome_of told.Memory = Some endings.Memory

-- once nothing is held, the answer is the outcome of the acts; or the turns were used up while a wait was in order
abbrev pub IsOutcome : Config → ℕ → List Act → Told → Type 0
IsOutcome c n past answer =
    ((ending : RunOutcome) × (outcome c past ≡ Some ending) × (outcome_of answer ≡ Some ending))
    ⊎ ((holds_something c past ≡ false) × (turns past ≡ n) × Rest c past × (answer ≡ told.Stopped n))

-- at most one answer fits a list of acts
abbrev pub OneAnswer : Type 0
OneAnswer = (c : Config) (n : ℕ) (past : List Act) (one other : Told) → IsOutcome c n past one → IsOutcome c n past other → one ≡ other
