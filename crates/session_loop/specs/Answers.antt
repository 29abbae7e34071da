-- The answer of a run, by what its session tells at the end.
use Rattle.std.specs.Prelude.{◌≡◌, ℕ, List, Option, Some, None, option_map}
use Rattle.relay_model.specs.{Act, Why, Config, places, own_doors, RunOutcome, failed_listening, failed_opening}
use Rattle.relay_model.specs.declared.acts.Why.TheVariants as whys
use Rattle.relay_model.specs.declared.outcomes.RunOutcome.TheVariants as whole
use Rattle.place_openings.specs.{GivenUp}
use Rattle.exit_status.specs.{Outcome, half_of}
use Rattle.exit_status.specs.declared.outcomes.Outcome.TheVariants as outcomes
use Rattle.exit_status.specs.declared.outcomes.EndWhy.TheVariants as ends
use Rattle.relay_session.specs.{told_listening, told_opening}
use Rattle.session_loop.specs.declared.faults.Fault.{Fault}

-- the first failed read or write, as an outcome of the model
abbrev pub told_fault : Option Fault → Option RunOutcome
told_fault None = None
told_fault (Some fault) = Some (whole.Faulted fault.place (half_of fault.op))

-- the first fault, or how it ended
abbrev pub fault_or : Outcome → Option Fault → Outcome
fault_or other None = other
fault_or other (Some fault) = outcomes.Faulted fault.place fault.op

-- the outcome of the first fault, where one is known
abbrev pub faulted : Option Fault → Option Outcome
faulted fault = option_map (λ (f : Fault). outcomes.Faulted f.place f.op) fault

-- the outcome where no listening is left to try, of so many that failed
abbrev pub unlistened : Option ℕ → Option Outcome
unlistened attempts = option_map (λ (n : ℕ). outcomes.ListenFailed n) attempts

-- the outcome where no opening is left to try
abbrev pub unopened : Option GivenUp → Option Outcome
unopened given_up = option_map (λ (g : GivenUp). outcomes.OpenFailed g.side g.attempts) given_up

-- the outcome that is answered at the end. There is none where what failed isn't known, nor for a refused peer
abbrev pub outcome_for : Why → Option ℕ → Option GivenUp → Option Fault → ℕ → Option Outcome
outcome_for whys.Memory listening opening fault made = Some outcomes.Memory
outcome_for whys.Stopped listening opening fault made = Some (outcomes.Stopped made)
outcome_for whys.AcceptFailed listening opening fault made = Some outcomes.AcceptFailed
outcome_for whys.ListenFailed listening opening fault made = unlistened listening
outcome_for whys.OpenFailed listening opening fault made = unopened opening
outcome_for whys.Faulted listening opening fault made = faulted fault
outcome_for whys.Finished listening opening fault made = Some (outcomes.Ended ends.Finished)
outcome_for whys.ClosingTime listening opening fault made = Some (fault_or (outcomes.Ended ends.ClosingTime) fault)
outcome_for whys.Idle listening opening fault made = Some (fault_or (outcomes.Ended ends.Idle) fault)
outcome_for whys.Served listening opening fault made = Some (outcomes.Ended ends.Served)
outcome_for whys.Refused listening opening fault made = None

-- the answer is told of these: what was given up, the first fault, and the turns that were made
pub record AnswerTells (c : Config) (past : List Act) (why : Why) (fault : Option Fault) (made : ℕ) (answer : Outcome) : Type 0 where
  pub listening : Option ℕ
  pub opening : Option GivenUp
  pub listening_is : told_listening listening ≡ failed_listening c past (own_doors c 0)
  pub opening_is : told_opening opening ≡ failed_opening c past (places c 0)
  pub answer_is : outcome_for why listening opening fault made ≡ Some answer
