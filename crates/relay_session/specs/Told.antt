-- What is told of a command of one session at its end, by the cause of that.
use Rattle.std.specs.Prelude.{ℕ, Bool, false, ◌||◌, List, [], ◌∷◌, Option, Some, None, unwrap_or}
use Rattle.relay_model.specs.{Config, Act, Why, places, own_doors, turns, first_fault, failed_listening, failed_opening, RunOutcome}
use Rattle.relay_model.specs.declared.acts.Act.TheVariants.{Turn}
use Rattle.relay_model.specs.declared.acts.Why.TheVariants as whys
use Rattle.relay_model.specs.declared.outcomes.RunOutcome.TheVariants.{Memory, Stopped, AcceptFailed, ListenFailed, OpenFailed, Ended}
use Rattle.place_openings.specs.{GivenUp}

-- the outcome of a command of one session, by the cause of that
abbrev pub told : Config → List Act → Why → RunOutcome
told c past whys.Memory = Memory
told c past whys.Stopped = Stopped (turns past)
told c past whys.AcceptFailed = AcceptFailed
told c past whys.ListenFailed = unwrap_or (failed_listening c past (own_doors c 0)) (Ended whys.ListenFailed)
told c past whys.OpenFailed = unwrap_or (failed_opening c past (places c 0)) (Ended whys.OpenFailed)
told c past whys.Faulted = unwrap_or (first_fault c past 0) (Ended whys.Faulted)
told c past whys.ClosingTime = unwrap_or (first_fault c past 0) (Ended whys.ClosingTime)
told c past whys.Idle = unwrap_or (first_fault c past 0) (Ended whys.Idle)
told c past why = Ended why

-- a turn said stop
abbrev pub stop_turned : List Act → Bool
stop_turned [] = false
stop_turned (Turn until at ready stop ∷ past) = stop || stop_turned past
stop_turned (act ∷ past) = stop_turned past

-- what is told of a place at which no try is left
abbrev pub told_opening : Option GivenUp → Option RunOutcome
told_opening None = None
told_opening (Some given_up) = Some (OpenFailed given_up.side given_up.attempts)

-- what is told of a door at which no try is left, after so many failures
abbrev pub told_listening : Option ℕ → Option RunOutcome
told_listening None = None
told_listening (Some attempts) = Some (ListenFailed attempts)
