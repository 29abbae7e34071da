-- What a turn of the loop makes of it.
use Rattle.std.specs.Prelude.{◌≡◌, ◌⊎◌, ℕ, suc, ◌<◌, true, List, Option, Some, None, is_some}
use Rattle.relay_model.specs.{Config, Act}
use Rattle.program_door.specs.{DoorSleeps, GoesOn}
use Rattle.fork_table.specs.{row_of}
use Rattle.world_trait.specs.Seen.{Seen}
use Rattle.event_loop.specs.declared.all_sessions.Sessions.{Sessions}
use Rattle.event_loop.specs.declared.turned.RunEnd.{RunEnd}
use Rattle.event_loop.specs.declared.turned.RunEnd.TheVariants as ends
use Rattle.event_loop.specs.Asking.{DoorIsOver}
use Rattle.event_loop.specs.Courses.{SessionsCourse}
use Rattle.session_loop.specs.{Run}
use Rattle.event_loop.specs.Endings.{MayEnd, MayEndAfter}
use Rattle.event_loop.specs.Looks.{BeginsCall, IsTimely, LooksPaid}
use Rattle.event_loop.specs.Waited.{ShortAt, Stopping, TurnedOn}

-- no session lives
abbrev pub NoneLives : Sessions → Type 0
NoneLives sessions = (s : ℕ) → row_of sessions.table s ≡ None

-- the door waits until this moment, and it goes on or some session lives
pub record Rested (c : Config) (past : List Act) (first : Option ℕ) (sessions : Sessions) : Type 0 where
  pub door : DoorSleeps c past first
  pub remains : GoesOn c past ⊎ ((s : ℕ) × (is_some (row_of sessions.table s) ≡ true))

-- the run went on by a turn after some acts, until some moment
pub record GoesRound (c : Config) (n : ℕ) (start now : Seen) (sessions : Sessions) : Type 0 where
  pub past : List Act
  pub until : Option ℕ
  pub turned : TurnedOn c n start now past until sessions

-- what became of a run of at most n turns
abbrev pub RunIs : Config → ℕ → Seen → Seen → Sessions → Option RunEnd → Type 0
RunIs c n start new after None = GoesRound c n start new after
RunIs c n start new after (Some ends.Over) = DoorIsOver c n start new after × NoneLives after
RunIs c n start new after (Some (ends.Ends why)) = MayEnd c n start new why after
RunIs c n start new after (Some ends.Stops) = Stopping c n start new after
RunIs c n start new after (Some ends.Short) = ShortAt c n start new after

-- a call that goes on or ends after its wait was one more of at most n turns, and any other made none
abbrev pub Further : ℕ → Sessions → Sessions → Option RunEnd → Type 0
Further n before after None = (before.made < n) × (after.made ≡ suc before.made)
Further n before after (Some ends.Over) = after.made ≡ before.made
Further n before after (Some (ends.Ends why)) = after.made ≡ before.made
Further n before after (Some ends.Stops) = (before.made < n) × (after.made ≡ suc before.made)
Further n before after (Some ends.Short) = (before.made < n) × (after.made ≡ suc before.made)

-- so of each that led to the beginning
abbrev pub EndsRun : Config → ℕ → Seen → Seen → Sessions → Sessions → Option RunEnd → Type 0
EndsRun c n old new before after end = (start : Seen) (past : List Act) → SessionsCourse c n start old past before → RunIs c n start new after end

-- what a turn makes of it
abbrev pub TurnIs : Config → ℕ → Seen → Seen → Sessions → Sessions → Option RunEnd → Type 0
TurnIs c n old new before after end = EndsRun c n old new before after end × Further n before after end

-- the same, where the door waits until this moment
abbrev pub WaitsForAll : Config → ℕ → Option ℕ → Seen → Seen → Sessions → Sessions → Option RunEnd → Type 0
WaitsForAll c n first old new before after end =
    ((start : Seen) (past : List Act) → SessionsCourse c n start old past before → Rested c past first before → RunIs c n start new after end) × Further n before after end

-- ---- where a call begins

-- some run of at most n turns led here, and the list of work is as its last turn left it, or empty where no act was made
pub record Within (c : Config) (n : ℕ) (now : Seen) (sessions : Sessions) : Type 0 where
  pub start : Seen
  pub past : List Act
  pub course : SessionsCourse c n start now past sessions
  pub begins : BeginsCall c past sessions.work.items

-- the run that goes on, or where it is to be ended
abbrev pub ComesTo : Config → ℕ → Seen → Seen → Sessions → Option RunEnd → List Act → Type 0
ComesTo c n start now sessions None since = Run c n start now since
ComesTo c n start now sessions (Some ends.Over) since = (over : DoorIsOver c n start now sessions) × (over.past ≡ since)
ComesTo c n start now sessions (Some (ends.Ends why)) since = MayEndAfter c n start now why sessions since
ComesTo c n start now sessions (Some ends.Stops) since = Run c n start now since
ComesTo c n start now sessions (Some ends.Short) since = Run c n start now since

-- of each such run the call pays for its looks, unless the last wait lasted up to its end
abbrev pub LooksBounded : Config → ℕ → Seen → Seen → Sessions → Sessions → ℕ → ℕ → Option RunEnd → Type 0
LooksBounded c n from to before after old new end = (at : Within c n from before) → IsTimely at.past → LooksPaid at.past (ComesTo c n at.start to after end) old new
