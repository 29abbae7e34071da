-- How many looks at sessions the loop makes.
use Rattle.std.specs.Prelude.{◌≡◌, ◌⊎◌, ℕ, ◌+◌, ◌*◌, ◌≤◌, ◌<◌, true, false, List, [], ◌∷◌, ◌++◌, Option, Some, None, length}
use Rattle.std.specs.FinMap.{len}
use Rattle.event_loop.specs.declared.all_sessions.Sessions.{Sessions}
use Rattle.relay_model.specs.{Config, ReadyAt, Act, now as moment, numbers}
use Rattle.relay_model.specs.declared.acts.Act.TheVariants.{Turn}
use Rattle.relay_session.specs.{session_until}
use Rattle.relay_laws.specs.{IsBefore}
use Rattle.event_loop.specs.Rows.{Has}
use Rattle.event_loop.specs.Courses.{timer_of}
use Rattle.event_loop.specs.Endings.{Once}
use Rattle.event_loop.specs.Turns.{names_own}

-- where nothing has ended the calls of the door, nothing had before, and the looks are no more than the sessions that
-- came and this many
abbrev pub LooksFew : ℕ → ℕ → ℕ → Sessions → Sessions → Type 0
LooksFew more old new before after = after.door.cut ≡ None → (before.door.cut ≡ None) × (new + before.table.admitted ≤ old + after.table.admitted + more)

-- what came into the list of work are this many numbers at most, and those whose timer was taken out
abbrev pub WorksFew : ℕ → Sessions → Sessions → Type 0
WorksFew named before after = length after.work.items + len after.timers.moments ≤ length before.work.items + len before.timers.moments + named

-- every session waits for a moment that is still to come
abbrev pub NoneDue : Sessions → Type 0
NoneDue sessions = (s m : ℕ) → timer_of sessions s ≡ Some m → sessions.clock < m

-- a wait until this moment lasts no longer than any session waits
abbrev pub WaitsNoLonger : Option ℕ → Sessions → Type 0
WaitsNoLonger until sessions = (s m : ℕ) → timer_of sessions s ≡ Some m → (u : ℕ) × (until ≡ Some u) × (u ≤ m)

-- where no timer is due, only what is named came into the list of work
abbrev pub OnlyNamedCame : ℕ → Sessions → Sessions → Type 0
OnlyNamedCame named before after = NoneDue before → length after.work.items ≤ length before.work.items + named

-- the moment that the session of this number waits for has come at this one
abbrev pub HasCome : Sessions → ℕ → ℕ → Type 0
HasCome sessions at s = (m : ℕ) × (timer_of sessions s ≡ Some m) × (m ≤ at)

-- whoever came into the list of work is named by one of these entries
abbrev pub CameByName : Config → List ReadyAt → Sessions → Sessions → Type 0
CameByName c entries before after = (s : ℕ) → Has s after.work.items → Has s before.work.items ⊎ (names_own c s entries ≡ true)

-- or waited for a moment that has come
abbrev pub CameInTime : Sessions → Sessions → Type 0
CameInTime before after = (s : ℕ) → Has s after.work.items → Has s before.work.items ⊎ HasCome before before.clock s

-- either of them
abbrev pub CameForCause : Config → List ReadyAt → Sessions → Sessions → Type 0
CameForCause c entries before after =
    (s : ℕ) → Has s after.work.items → Has s before.work.items ⊎ ((names_own c s entries ≡ true) ⊎ HasCome before before.clock s)

-- the list of work has grown by those alone whose timer fell due, each once
pub record AddsDue (before after : Sessions) : Type 0 where
  pub due : List ℕ
  pub work_is : after.work.items ≡ before.work.items ++ due
  pub once : Once due
  pub come : (s : ℕ) → Has s due → HasCome before before.clock s
  pub taken : (s : ℕ) → Has s due → timer_of after s ≡ None

-- the list of work is at most so many numbers more than it was, and then those whose timer fell due, each once
pub record AddsParts (more : ℕ) (before after : Sessions) : Type 0 where
  pub named : List ℕ
  pub due : List ℕ
  pub work_is : after.work.items ≡ named ++ due
  pub few : length named ≤ length before.work.items + more
  pub once : Once due
  pub come : (s : ℕ) → Has s due → HasCome before before.clock s

-- ---- a call looks twice at most for each act, for each entry of a turn before or in it, and for one

-- how many entries the last turn has, if one was made
abbrev pub last_named : List Act → ℕ
last_named [] = 0
last_named (Turn until at ready stop ∷ past) = length ready.entries
last_named (act ∷ past) = last_named past

-- how many entries these turns have
abbrev pub all_named : List Act → ℕ
all_named [] = 0
all_named (Turn until at ready stop ∷ acts) = length ready.entries + all_named acts
all_named (act ∷ acts) = all_named acts

-- a session that after these acts waited for a moment that has come at this one
pub record WasDue (c : Config) (past : List Act) (at s : ℕ) : Type 0 where
  pub begun : s < numbers c past
  pub come : (m : ℕ) × (session_until c past s ≡ Some m) × (m ≤ at)

-- the list of work as a turn leaves it: at most as many numbers as it has entries, and then, each once, those of
-- sessions that waited for a moment that has come, of which there are none where it came before its wait was over
pub record LeftByTurn (c : Config) (past : List Act) (until : Option ℕ) (at : ℕ) (entries : List ReadyAt) (work : List ℕ) : Type 0 where
  pub named : List ℕ
  pub due : List ℕ
  pub work_is : work ≡ named ++ due
  pub few : length named ≤ length entries
  pub once : Once due
  pub come : (s : ℕ) → Has s due → WasDue c past at s
  pub none : IsBefore at until → due ≡ []

-- where a call begins no act was made yet and there is no work, or the last act is a turn, and the list of work is as it
-- left it
abbrev pub BeginsCall : Config → List Act → List ℕ → Type 0
BeginsCall c [] work = work ≡ []
BeginsCall c (Turn until at ready false ∷ past) work = LeftByTurn c past until at ready.entries work
BeginsCall c (act ∷ past) work = ⊥

-- the last turn, if one was made, came before the end of its wait, as any does where the wait has no end, or no time
-- passed in it
abbrev pub IsTimely : List Act → Type 0
IsTimely [] = Unit {0}
IsTimely (Turn until at ready stop ∷ past) = IsBefore at until ⊎ (at ≡ moment past)
IsTimely (act ∷ past) = IsTimely past

-- the acts of the call led on to where this holds, and the looks are at most twice as many as these acts, the entries of
-- the last turn before them and of the turn among them, and one
pub record LooksPaid (past : List Act) (Holds : List Act → Type 0) (old new : ℕ) : Type 0 where
  pub made : List Act
  pub holds : Holds (made ++ past)
  pub few : new ≤ old + 2 * (length made + (last_named past + all_named made) + 1)
