-- Looks at sessions, and the acts that pay for them.
use Rattle.std.specs.Prelude.{◌⊎◌, ℕ, ◌+◌, ◌*◌, ◌≤◌, ◌<◌, List, [], ◌∷◌, ◌++◌, Option, Some, None, length}
use Rattle.relay_model.specs.{Config, Act, Why, program_door, numbers}
use Rattle.relay_model.specs.declared.acts.Act.TheVariants.{AcceptFailed}
use Rattle.relay_model.specs.declared.acts.Why.TheVariants as whys
use Rattle.program_door.specs.declared.wishes.DoorWish.TheVariants as wishes
use Rattle.program_door.specs.{Wished}
use Rattle.world_trait.specs.Seen.{Seen}
use Rattle.session_loop.specs.{Run}
use Rattle.session_laws.specs.{MustAct}
use Rattle.event_loop.specs.declared.all_sessions.Sessions.{Sessions}
use Rattle.event_loop.specs.declared.asked.DoorAsked.{DoorAsked}
use Rattle.event_loop.specs.declared.asked.DoorAsked.TheVariants as asks
use Rattle.event_loop.specs.Rows.{Has}
use Rattle.event_loop.specs.Courses.{SessionsCourse, NoWork}
use Rattle.event_loop.specs.Endings.{Ending, Failed, MayEndAfter}
use Rattle.event_loop.specs.Looks.{WaitsNoLonger, all_named}
use Rattle.event_loop.specs.declared.turned.RunEnd.{RunEnd}
use Rattle.event_loop.specs.declared.waited.Waited.{Waited}
use Rattle.event_loop.specs.declared.waited.Waited.TheVariants as waits
use Rattle.event_loop.specs.Turned.{ComesTo, Rested}
use Rattle.event_loop.specs.Waited.{IsWaitInOrder}

-- a session that has begun and has to act
pub record IsBusy (c : Config) (past : List Act) (s : ℕ) : Type 0 where
  pub begun : s < numbers c past
  pub must : MustAct c past s

-- of the looks at these numbers, one after another, all but so many are at sessions that have to act, and that aren't
-- looked at again; a number that is looked at again counts for two
abbrev pub Paid : Config → List Act → List ℕ → ℕ → Type 0
Paid c past [] k = Unit {0}
Paid c past (s ∷ ss) k = (IsBusy c past s × (Has s ss → ⊥) × Paid c past ss k) ⊎ (((Has s ss → ⊥) × ((j : ℕ) × (j + 1 ≤ k) × Paid c past ss j)) ⊎ ((j : ℕ) × (j + 2 ≤ k) × Paid c past ss j))

-- some acts came after which this holds, and the looks are at most twice as many as they and the entries of their turns,
-- and so many more
pub record LedOn (past : List Act) (Holds : List Act → Type 0) (more old new : ℕ) : Type 0 where
  pub made : List Act
  pub holds : Holds (made ++ past)
  pub few : new ≤ old + 2 * (length made + all_named made) + more

-- the sessions that have work
abbrev pub RowsPaid : Config → Seen → Seen → Sessions → Sessions → ℕ → ℕ → Option Why → Type 0
RowsPaid c from to before after old new None = (n : ℕ) (start : Seen) (past : List Act) (k : ℕ) → SessionsCourse c n start from past before → Paid c past before.work.items k → LedOn past (λ since. SessionsCourse c n start to since after) k old new
RowsPaid c from to before after old new (Some why) = (n : ℕ) (start : Seen) (past : List Act) (k : ℕ) → SessionsCourse c n start from past before → Paid c past before.work.items k → LedOn past (MayEndAfter c n start to why after) (k + 2) old new

-- the sessions that are cut for a failed accepting, one after another
abbrev pub EndingPaid : Config → Seen → Seen → Sessions → Sessions → ℕ → ℕ → Option Why → Type 0
EndingPaid c from to before after old new None = ((n : ℕ) (start : Seen) (past : List Act) → Ending c n start from past before → LedOn past (λ since. SessionsCourse c n start to since after) 0 old new) × NoWork after
EndingPaid c from to before after old new (Some why) = (n : ℕ) (start : Seen) (past : List Act) → Ending c n start from past before → LedOn past (MayEndAfter c n start to why after) 2 old new

-- the same from the failed accepting on
abbrev pub EndsPaid : Config → Seen → Seen → Sessions → Sessions → ℕ → ℕ → Option Why → Type 0
EndsPaid c from to before after old new None = (n : ℕ) (start : Seen) (past : List Act) → Failed c n start from past before → LedOn (AcceptFailed program_door ∷ past) (λ since. SessionsCourse c n start to since after) 0 old new
EndsPaid c from to before after old new (Some why) = (n : ℕ) (start : Seen) (past : List Act) → Failed c n start from past before → LedOn (AcceptFailed program_door ∷ past) (MayEndAfter c n start to why after) 2 old new

-- what the door came to
abbrev pub AskedTo : Config → ℕ → Seen → Seen → Sessions → DoorAsked → List Act → Type 0
AskedTo c n start now sessions (asks.Waits until) since = SessionsCourse c n start now since sessions × Wished c since (wishes.Sleep until)
AskedTo c n start now sessions asks.Over since = SessionsCourse c n start now since sessions × Wished c since wishes.Done
AskedTo c n start now sessions (asks.Ends why) since = MayEndAfter c n start now why sessions since

-- its calls, and those of the sessions that its peers bring
abbrev pub AskedPaid : Config → Seen → Seen → Sessions → Sessions → ℕ → ℕ → DoorAsked → Type 0
AskedPaid c from to before after old new asked = (n : ℕ) (start : Seen) (past : List Act) → SessionsCourse c n start from past before → LedOn past (AskedTo c n start to after asked) 2 old new

-- one of them
abbrev pub AskPaid : Config → Seen → Seen → Sessions → Sessions → ℕ → ℕ → Option DoorAsked → Type 0
AskPaid c from to before after old new None = (n : ℕ) (start : Seen) (past : List Act) → SessionsCourse c n start from past before → LedOn past (λ since. SessionsCourse c n start to since after) 0 old new
AskPaid c from to before after old new (Some asked) = AskedPaid c from to before after old new asked

-- what a wait came to
abbrev pub WaitedTo : Config → ℕ → Seen → Seen → Sessions → Waited → List Act → Type 0
WaitedTo c n start now sessions waits.Goes since = Run c n start now since
WaitedTo c n start now sessions waits.Stops since = Run c n start now since
WaitedTo c n start now sessions waits.Short since = Run c n start now since
WaitedTo c n start now sessions waits.Memory since = MayEndAfter c n start now whys.Memory sessions since

-- a wait
abbrev pub WaitPaid : Config → ℕ → Option ℕ → Seen → Seen → Sessions → Sessions → ℕ → ℕ → Waited → Type 0
WaitPaid c n until from to before after old new waited = (start : Seen) (past : List Act) → SessionsCourse c n start from past before → IsWaitInOrder c past until → WaitsNoLonger until before → LedOn past (WaitedTo c n start to after waited) 0 old new

-- the same, where the door waits until this moment
abbrev pub WaitForPaid : Config → ℕ → Option ℕ → Seen → Seen → Sessions → Sessions → ℕ → ℕ → Option RunEnd → Type 0
WaitForPaid c n first from to before after old new end = (start : Seen) (past : List Act) → SessionsCourse c n start from past before → Rested c past first before → LedOn past (ComesTo c n start to after end) 0 old new
