-- The whole of a command with `fork`: when it rests, until when it waits, and how it ends.
use Rattle.std.specs.Prelude.{◌≡◌, ◌⊎◌, ℕ, ◌<◌, ◌≤◌, true, false, List, length, Option, Some, None}
use Rattle.relay_model.specs.{Config, Why, Act, has_fork, program_door, turns, failures, admitted, holds, numbers, out_of_tries, outcome, RunOutcome}
use Rattle.relay_model.specs.{Legal}
use Rattle.relay_model.specs.declared.acts.Why.TheVariants as whys
use Rattle.relay_model.specs.declared.outcomes.RunOutcome.TheVariants.{Memory, Stopped, AcceptFailed, ListenFailed, Ended}
use Rattle.relay_model.specs.Rest.{SessionRests, Rest, owed, until_of}
use Rattle.relay_session.specs.{session_until}
use Rattle.program_door.specs.{door_cause, DoorSleeps, GoesOn, IsDoorDone, door_until}

-- the door goes on, or some session that has begun holds something
abbrev pub Remains : Config → List Act → Type 0
Remains c past = GoesOn c past ⊎ ((s : ℕ) × (s < numbers c past) × (holds c past s ≡ true))

-- something goes on, the door rests, and each session that has begun rests
pub record AllRest (c : Config) (past : List Act) (until : Option ℕ) : Type 0 where
  pub door : DoorSleeps c past until
  pub remains : Remains c past
  pub sessions : (s : ℕ) → s < numbers c past → SessionRests c past s

-- then a wait is in order, where no dump is owed
abbrev pub AllRestIsRest : Type 0
AllRestIsRest = (c : Config) (n : ℕ) (past : List Act) (until : Option ℕ) → Legal c n past → has_fork c ≡ true → owed c past ≡ None → AllRest c past until → Rest c past

-- the door waits until this moment, or some session that has begun
abbrev pub WaitsUntil : Config → List Act → ℕ → Type 0
WaitsUntil c past m = (door_until c past ≡ Some m) ⊎ ((s : ℕ) × (s < numbers c past) × (session_until c past s ≡ Some m))

-- the least moment that one of them waits for, where one waits for any
abbrev pub IsLeastWait : Config → List Act → Option ℕ → Type 0
IsLeastWait c past None = (m : ℕ) → WaitsUntil c past m → ⊥
IsLeastWait c past (Some m) = WaitsUntil c past m × ((k : ℕ) → WaitsUntil c past k → m ≤ k)

-- is that until when the whole waits
abbrev pub LeastWaitIsUntil : Type 0
LeastWaitIsUntil = (c : Config) (past : List Act) (until : Option ℕ) → IsLeastWait c past until → until ≡ until_of c past

-- the outcome, by what ended the calls of the door
abbrev pub told_by_door : Config → List Act → Option Why → RunOutcome → Type 0
told_by_door c past (Some whys.Memory) answer = answer ≡ Memory
told_by_door c past (Some whys.Stopped) answer = answer ≡ Stopped (turns past)
told_by_door c past (Some whys.AcceptFailed) answer = answer ≡ AcceptFailed
told_by_door c past (Some why) answer = ⊥
told_by_door c past None answer =
    ((out_of_tries c past program_door ≡ true) × (answer ≡ ListenFailed (length (failures past program_door))))
    ⊎ ((out_of_tries c past program_door ≡ false) × (answer ≡ Ended whys.Served))

-- where the door is done and no session holds anything, that is the outcome
abbrev pub DoorTellsOutcome : Type 0
DoorTellsOutcome =
    (c : Config) (n : ℕ) (past : List Act) (answer : RunOutcome) → Legal c n past → has_fork c ≡ true → IsDoorDone c past → ((s : ℕ) → s < admitted c past → holds c past s ≡ false) →
    told_by_door c past (door_cause past) answer → outcome c past ≡ Some answer
