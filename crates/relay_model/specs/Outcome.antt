-- How a run ended, once nothing is held.
use Rattle.std.specs.Prelude.{ℕ, suc, Bool, not, ◌&&◌, ◌||◌, List, [], ◌∷◌, length, Option, Some, None, if◌then◌else◌}
use Rattle.std.specs.List.{list_any}
use Rattle.relay_model.specs.declared.places.Half.TheVariants.{ToRead, ToWrite}
use Rattle.relay_model.specs.declared.places.Place.{Place}
use Rattle.relay_model.specs.declared.commands.Config.{Config}
use Rattle.relay_model.specs.declared.acts.Why.{Why}
use Rattle.relay_model.specs.declared.acts.Why.TheVariants as whys
use Rattle.relay_model.specs.declared.acts.Act.{Act}
use Rattle.relay_model.specs.declared.acts.Act.TheVariants.{ReadFault, WriteFault}
use Rattle.relay_model.specs.Choices.{only_if, or_else, first_some, some_below}
use Rattle.relay_model.specs.Configs.{places, own_doors, is_place_of, has_fork, program_door}
use Rattle.relay_model.specs.History.{turns, stop_said, memory_said, accept_failed, held, served, failures}
use Rattle.relay_model.specs.Sessions.{holds, live, numbers}
use Rattle.relay_model.specs.Openings.{out_of_tries}
use Rattle.relay_model.specs.Cause.{cause}
use Rattle.relay_model.specs.declared.outcomes.RunOutcome.{RunOutcome}
use Rattle.relay_model.specs.declared.outcomes.RunOutcome.TheVariants.{Memory, Stopped, AcceptFailed, ListenFailed, OpenFailed, Faulted, Ended}

-- some session that has begun, or the peer that may become the next, holds something, or the program door is held
abbrev pub holds_something : Config → List Act → Bool
holds_something c past = some_below (holds c past) (suc (numbers c past)) || has_fork c && held past program_door

-- the doors whose failures are the program's
abbrev pub program_doors : Config → List Place
program_doors c = if has_fork c then program_door ∷ [] else own_doors c 0

-- the first read or write of the session that failed
abbrev pub first_fault : Config → List Act → ℕ → Option RunOutcome
first_fault c [] s = None
first_fault c (ReadFault q ∷ past) s = or_else (first_fault c past s) (only_if (is_place_of c s q) (Faulted q ToRead))
first_fault c (WriteFault q ∷ past) s = or_else (first_fault c past s) (only_if (is_place_of c s q) (Faulted q ToWrite))
first_fault c (act ∷ past) s = first_fault c past s

-- the first of these doors that is out of tries
abbrev pub failed_listening : Config → List Act → List Place → Option RunOutcome
failed_listening c past [] = None
failed_listening c past (d ∷ ds) = or_else (only_if (out_of_tries c past d) (ListenFailed (length (failures past d)))) (failed_listening c past ds)

-- the first of these places that is out of tries
abbrev pub failed_opening : Config → List Act → List Place → Option RunOutcome
failed_opening c past [] = None
failed_opening c past (p ∷ ps) = or_else (only_if (out_of_tries c past p) (OpenFailed p.side (length (failures past p)))) (failed_opening c past ps)

-- the outcome of a program of one session, by its cause
abbrev pub outcome_by : Config → List Act → Option Why → Option RunOutcome
outcome_by c past None = None
outcome_by c past (Some whys.OpenFailed) = failed_opening c past (places c 0)
outcome_by c past (Some whys.Faulted) = or_else (first_fault c past 0) (Some (Ended whys.Faulted))
outcome_by c past (Some whys.ClosingTime) = or_else (first_fault c past 0) (Some (Ended whys.ClosingTime))
outcome_by c past (Some whys.Idle) = or_else (first_fault c past 0) (Some (Ended whys.Idle))
outcome_by c past (Some why) = Some (Ended why)

-- the outcome of a program of many: the door has served and no session lives
abbrev pub outcome_of_sessions : Config → List Act → Option RunOutcome
outcome_of_sessions c past = only_if (served past program_door && not (some_below (live c past) (numbers c past))) (Ended whys.Served)

-- the outcome, but for that of turns that are used up
abbrev pub outcome : Config → List Act → Option RunOutcome
outcome c past =
    if holds_something c past then None
    else first_some (only_if (memory_said past) Memory
    ∷ only_if (stop_said past) (Stopped (turns past))
    ∷ only_if (list_any (accept_failed past) (program_doors c)) AcceptFailed
    ∷ failed_listening c past (program_doors c)
    ∷ (if has_fork c then outcome_of_sessions c past else outcome_by c past (cause c past 0))
    ∷ [])
