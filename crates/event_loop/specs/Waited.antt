-- What a wait makes of the loop.
use Rattle.std.specs.Prelude.{vec_len, ◌≡◌, ◌⊎◌, ℕ, suc, ◌<◌, ◌≤◌, true, false, List, ◌∷◌, length, Option, Some, None}
use Rattle.relay_model.specs.{Config, Act, Why, has_fork, Listed, copied_list, turns, memory_said, admitted, holds}
use Rattle.relay_model.specs.declared.acts.Act.TheVariants.{Turn}
use Rattle.relay_model.specs.declared.acts.Why.TheVariants as whys
use Rattle.relay_model.specs.Rest.{Rest, owed, until_of}
use Rattle.relay_session.specs.{session_until, stop_turned}
use Rattle.program_door.specs.{Door, DoorStands}
use Rattle.fork_table.specs.{row_of}
use Rattle.world_trait.specs.Seen.{Seen}
use Rattle.session_laws.specs.{IsSaid, MaySay, Sleeper}
use Rattle.session_loop.specs.{Run}
use Rattle.relay_laws.specs.{IsBefore}
use Rattle.event_loop.specs.declared.all_sessions.Sessions.{Sessions}
use Rattle.event_loop.specs.declared.all_sessions.Row.{Row}
use Rattle.event_loop.specs.declared.waited.Waited.{Waited}
use Rattle.event_loop.specs.declared.waited.Waited.TheVariants as waits
use Rattle.event_loop.specs.Courses.{CountsSessions, Unsaid, SessionsCourse}
use Rattle.event_loop.specs.Endings.{LeavesRow, MayEnd, RunsOut}
use Rattle.event_loop.specs.Looks.{BeginsCall, WaitsNoLonger}
use Rattle.event_loop.specs.Rows.{Has}
use Rattle.event_loop.specs.Turns.{names_own}

-- where it is a stop, a turn says stop, or the turns are used up
abbrev pub StopsAt : ℕ → Why → List Act → Type 0
StopsAt n why past = why ≡ whys.Stopped → (stop_turned past ≡ true) ⊎ (turns past ≡ n)

-- no dump is owed, or the first closing for want of memory is still to come
abbrev pub OwesAtExit : Config → List Act → Why → Type 0
OwesAtExit c past why = (owed c past ≡ None) ⊎ ((why ≡ whys.Memory) × (memory_said past ≡ false))

-- the run is ended for this reason, a stop or want of memory, and a closing for it may come
pub record Exit (c : Config) (n : ℕ) (start now : Seen) (past : List Act) (why : Why) (door : Door) : Type 0 where
  pub fork : has_fork c ≡ true
  pub run : Run c n start now past
  pub stands : DoorStands c past door
  pub may : MaySay why past
  pub ends : IsSaid why past ⊎ RunsOut c n past why
  pub stops : StopsAt n why past
  pub owes : OwesAtExit c past why

-- and each session was cut for it
pub record LeavingAt (c : Config) (n : ℕ) (start now : Seen) (past : List Act) (why : Why) (sessions : Sessions) : Type 0 where
  pub exit : Exit c n start now past why sessions.door
  pub counts : CountsSessions c past sessions.table
  pub made_is : turns past ≡ sessions.made
  pub room : c.block ≤ vec_len sessions.scratch
  pub rows : (s : ℕ) → LeavesRow c n past s why (row_of sessions.table s)

-- so of some acts
pub record Leaving (c : Config) (n : ℕ) (start now : Seen) (why : Why) (sessions : Sessions) : Type 0 where
  pub past : List Act
  pub leaving : LeavingAt c n start now past why sessions

-- a session that sleeps
abbrev pub SleepsRow : Config → ℕ → List Act → ℕ → Option Row → Type 0
SleepsRow c n past s None = s < admitted c past → holds c past s ≡ false
SleepsRow c n past s (Some row) = (until : Option ℕ) × (turn : ℕ) × Sleeper c n past s until turn row.member.session

-- a turn that says stop came after these acts, and no session has heard it yet
pub record StoppingAt (c : Config) (n : ℕ) (start now : Seen) (past : List Act) (until : Option ℕ) (sessions : Sessions) : Type 0 where
  pub exit : Exit c n start now (Turn until sessions.clock (copied_list sessions.ready) true ∷ past) whys.Stopped sessions.door
  pub counts : CountsSessions c past sessions.table
  pub made_is : suc (turns past) ≡ sessions.made
  pub room : c.block ≤ vec_len sessions.scratch
  pub unsaid : Unsaid past
  pub rows : (s : ℕ) → SleepsRow c n past s (row_of sessions.table s)

-- so of some acts
pub record Stopping (c : Config) (n : ℕ) (start now : Seen) (sessions : Sessions) : Type 0 where
  pub past : List Act
  pub until : Option ℕ
  pub stopping : StoppingAt c n start now past until sessions

-- a wait was in order, until this moment
pub record IsWaitInOrder (c : Config) (past : List Act) (until : Option ℕ) : Type 0 where
  pub rests : Rest c past
  pub is_until : until ≡ until_of c past

-- the run goes on after one more turn, which is its last act; each session in the list of work is named by the turn or
-- waited for a moment that has come, and where the turn came before the end of its wait, they are no more than its
-- entries; the next call begins so
pub record TurnedOn (c : Config) (n : ℕ) (start now : Seen) (past : List Act) (until : Option ℕ) (sessions : Sessions) : Type 0 where
  pub at : ℕ
  pub ready : Listed
  pub course : SessionsCourse c n start now (Turn until at ready false ∷ past) sessions
  pub came : (s : ℕ) → Has s sessions.work.items → (names_own c s ready.entries ≡ true) ⊎ ((m : ℕ) × (session_until c past s ≡ Some m) × (m ≤ at))
  pub few : IsBefore at until → length sessions.work.items ≤ length ready.entries
  pub begins : BeginsCall c (Turn until at ready false ∷ past) sessions.work.items

-- a turn came after some acts, and there was no memory for the list of work; the run may be ended for that
pub record ShortAt (c : Config) (n : ℕ) (start now : Seen) (sessions : Sessions) : Type 0 where
  pub past : List Act
  pub until : Option ℕ
  pub at : ℕ
  pub ready : Listed
  pub ends : MayEnd c n start now whys.Memory sessions
  pub last : ends.past ≡ Turn until at ready false ∷ past

-- where it was, the run goes on after the turn, or is stopped by it
abbrev pub WaitedIs : Config → ℕ → Option ℕ → Seen → Seen → Sessions → Sessions → Waited → Type 0
WaitedIs c n until old new before after waits.Goes = ((start : Seen) (past : List Act) → SessionsCourse c n start old past before → IsWaitInOrder c past until → WaitsNoLonger until before → TurnedOn c n start new past until after) × (after.made ≡ suc before.made)
WaitedIs c n until old new before after waits.Stops = ((start : Seen) (past : List Act) → SessionsCourse c n start old past before → IsWaitInOrder c past until → Stopping c n start new after) × (after.made ≡ suc before.made)
WaitedIs c n until old new before after waits.Short = ((start : Seen) (past : List Act) → SessionsCourse c n start old past before → IsWaitInOrder c past until → ShortAt c n start new after) × (after.made ≡ suc before.made)
WaitedIs c n until old new before after waits.Memory = ((start : Seen) (past : List Act) → SessionsCourse c n start old past before → IsWaitInOrder c past until → MayEnd c n start new whys.Memory after) × (after.made ≡ before.made)
