-- What is known of a generated run by its summary.
use Rattle.std.specs.Prelude.{◌≡◌, ◌≢◌, ◌≤◌, ℕ, false, List, sum}
use Rattle.relay_model.specs.{Act, Place, got, held, BeginsWith, Legal}
use Rattle.exit_status.specs.{Outcome, IsOutcome}
use Rattle.exit_status.specs.declared.outcomes.Outcome.TheVariants as outcomes
use Rattle.socat_top.specs.declared.summaries.Summary.{Summary}
use Rattle.socat_top.specs.Command.{load_command, load_turns}
use Rattle.socat_top.specs.Scripts.{scripted}
use Rattle.socat_top.specs.Stream.{stream}
use Rattle.socat_top.specs.Summaries.{summary_of}

-- it sums up a legal history of the command, whose outcome isn't want of memory, and which read at each place the beginning of what was scripted there for the
-- number; where all fifty sessions finished it has the count and the sum of all their bytes
pub record GeneratedRun (n : ℕ) (summary : Summary) : Type 0 where
  pub acts : List Act
  pub answer : Outcome
  pub legal : Legal load_command load_turns acts
  pub free : (p : Place) → held acts p ≡ false
  pub answer_is : IsOutcome load_command load_turns acts answer
  pub remembered : answer ≢ outcomes.Memory
  pub given : (p : Place) → BeginsWith (got acts p) (scripted n p)
  pub summary_is : summary ≡ summary_of n acts
  pub few : summary.sessions ≤ 50
  pub whole_bytes : summary.sessions ≡ 50 → summary.bytes ≡ 3276800
  pub whole_sum : summary.sessions ≡ 50 → summary.sum ≡ sum (stream n 3276800)
