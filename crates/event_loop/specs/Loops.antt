-- What a loop stands for, and what a call makes of it.
use Rattle.std.specs.Prelude.{vec_len, ◌≡◌, ℕ, ◌+◌, ◌-◌, ◌*◌, ◌^◌, ◌≤◌, ◌<◌, Bool, true, false, List, [], ◌∷◌, ◌++◌, length, Option, Some, None}
use Rattle.relay_model.specs.{Act, Place, Config, Fit, Free, turns, copied_list}
use Rattle.relay_model.specs.declared.acts.Act.TheVariants.{Turn}
use Rattle.exit_status.specs.{Outcome}
use Rattle.world_trait.specs.Seen.{Seen}
use Rattle.session_loop.specs.{ends_in_turn, HasRunEnded, Happened}
use Rattle.session_loop.specs.Courses as single
use Rattle.event_loop.specs.declared.all_sessions.Sessions.{Sessions}
use Rattle.event_loop.specs.declared.turned.RunEnd.{RunEnd}
use Rattle.event_loop.specs.declared.turned.RunEnd.TheVariants as ends
use Rattle.event_loop.specs.Courses as several
use Rattle.event_loop.specs.Looks.{BeginsCall, IsTimely, all_named, last_named}
use Rattle.event_loop.specs.Waited.{ShortAt, Stopping}
use Rattle.event_loop.specs.declared.steps.Step.{Step}
use Rattle.event_loop.specs.declared.steps.Step.TheVariants.{Goes, Over}
use Rattle.event_loop.specs.declared.one.OneSession.{OneSession}
use Rattle.event_loop.specs.declared.many.ManySessions.{ManySessions}
use Rattle.event_loop.specs.declared.courses.LoopCourse.{LoopCourse}
use Rattle.event_loop.specs.declared.courses.LoopCourse.TheVariants.{One, Many}
use Rattle.event_loop.specs.declared.loops.Loop.{Loop}

-- ---- what it stands for

-- a run of one session, of at most n turns
pub record IsOne (c : Config) (n : ℕ) (start now : Seen) (past : List Act) (one : OneSession) : Type 0 where
  pub course : single.DriverCourse c n start now one.driver past
  pub within : one.driver.made ≤ n
  pub room : c.block ≤ vec_len one.scratch

-- a run of all sessions that is to be ended since its last turn says stop, or since there was no memory after it
abbrev pub IsToEnd : Config → ℕ → Seen → Seen → List Act → Sessions → RunEnd → Type 0
IsToEnd c n start now past sessions ends.Stops = (stopping : Stopping c n start now sessions) × (past ≡ Turn stopping.until sessions.clock (copied_list sessions.ready) true ∷ stopping.past)
IsToEnd c n start now past sessions ends.Short = (short : ShortAt c n start now sessions) × (past ≡ short.ends.past)
IsToEnd c n start now past sessions end = ⊥

-- the run is to be ended for what its wait brought
abbrev pub is_late : RunEnd → Bool
is_late ends.Stops = true
is_late ends.Short = true
is_late end = false

-- or that goes on
abbrev pub AreSessions : Config → ℕ → Seen → Seen → List Act → Sessions → Option RunEnd → Type 0
AreSessions c n start now past sessions None = several.SessionsCourse c n start now past sessions × BeginsCall c past sessions.work.items
AreSessions c n start now past sessions (Some end) = IsToEnd c n start now past sessions end

-- a run of many sessions
pub record IsMany (c : Config) (n : ℕ) (start now : Seen) (past : List Act) (many : ManySessions) : Type 0 where
  pub fit : Fit c
  pub sessions : AreSessions c n start now past many.sessions many.end

-- a run of either kind
abbrev pub IsCourse : Config → ℕ → Seen → Seen → List Act → LoopCourse → Type 0
IsCourse c n start now past (One one) = IsOne c n start now past one
IsCourse c n start now past (Many many) = IsMany c n start now past many

-- the loop stands for these acts of a run that began where the world looked like `start`; it looks like `now`
abbrev pub Drives : Seen → Seen → List Act → Loop → Type 0
Drives start now past whole = IsCourse whole.config whole.turns start now past whole.course

-- how many waits it has made
abbrev pub made_in : LoopCourse → ℕ
made_in (One one) = one.driver.made
made_in (Many many) = many.sessions.made

-- the same of a loop
abbrev pub made_of : Loop → ℕ
made_of whole = made_in whole.course

-- some run led here
pub record SomeOne (c : Config) (n : ℕ) (now : Seen) (one : OneSession) : Type 0 where
  pub start : Seen
  pub past : List Act
  pub is : IsOne c n start now past one

-- the same of many sessions
pub record SomeMany (c : Config) (n : ℕ) (now : Seen) (many : ManySessions) : Type 0 where
  pub start : Seen
  pub past : List Act
  pub is : IsMany c n start now past many

-- the same of a loop of either kind
pub record LoopSomewhere (now : Seen) (whole : Loop) : Type 0 where
  pub start : Seen
  pub past : List Act
  pub drives : Drives start now past whole

-- ---- the beginning

-- a run begins wherever nothing is held
abbrev pub BeginsOne : Config → OneSession → Type 0
BeginsOne c one = (n : ℕ) (start : Seen) → ((p : Place) → start.held p ≡ Free) → IsOne c n start start [] one

-- the same of many sessions
abbrev pub BeginsMany : Config → ManySessions → Type 0
BeginsMany c many = (n : ℕ) (start : Seen) → ((p : Place) → start.held p ≡ Free) → IsMany c n start start [] many

-- the same of either kind
abbrev pub Begins : Config → LoopCourse → Type 0
Begins c course = (n : ℕ) (start : Seen) → ((p : Place) → start.held p ≡ Free) → IsCourse c n start start [] course

-- so a loop of this command and so many turns
pub record BeginsLoop (c : Config) (n : ℕ) (whole : Loop) : Type 0 where
  pub config_is : whole.config ≡ c
  pub turns_is : whole.turns ≡ n
  pub begins : (start : Seen) → ((p : Place) → start.held p ≡ Free) → Drives start start [] whole

-- ---- a call

-- the run goes on by one turn, which is the last act of the call, and the loop stands for it
pub record LoopWentOn (past : List Act) (Stands : List Act → Type 0) : Type 0 where
  pub since : List Act
  pub stands : Stands since
  pub last : ends_in_turn since ≡ true
  pub turned : turns since ≡ turns past + 1

-- the run has ended with this answer, by a call that made no turn
pub record HasEnded (c : Config) (n : ℕ) (start now : Seen) (past : List Act) (answer : Outcome) : Type 0 where
  pub since : List Act
  pub ended : HasRunEnded c n start now since answer
  pub turned : turns since ≡ turns past

-- one of these
abbrev pub Called : Config → ℕ → Seen → Seen → List Act → (List Act → Type 0) → Step → Type 0
Called c n start now past Stands Goes = LoopWentOn past Stands
Called c n start now past Stands (Over answer) = HasEnded c n start now past answer

-- so of each run that the loop stood for
abbrev pub OneTurns : Config → ℕ → Seen → Seen → OneSession → OneSession → Step → Type 0
OneTurns c n old new before after step = (start : Seen) (past : List Act) → IsOne c n start old past before → Called c n start new past (λ since. IsOne c n start new since after) step

-- the same of many sessions
abbrev pub ManyTurn : Config → ℕ → Seen → Seen → ManySessions → ManySessions → Step → Type 0
ManyTurn c n old new before after step = (start : Seen) (past : List Act) → IsMany c n start old past before → Called c n start new past (λ since. IsMany c n start new since after) step

-- the same of a loop of either kind
abbrev pub TurnIs : Seen → Seen → Loop → Loop → Step → Type 0
TurnIs old new before after step = (start : Seen) (past : List Act) → Drives start old past before → Called before.config before.turns start new past (λ since. Drives start new since after) step

-- the loop is of the same command
pub record SameCommand (before after : Loop) : Type 0 where
  pub config_same : after.config ≡ before.config
  pub turns_same : after.turns ≡ before.turns

-- a call that goes on was one more of at most n turns
abbrev pub Further : ℕ → ℕ → ℕ → Step → Type 0
Further n before after Goes = (before < n) × (after ≡ before + 1)
Further n before after (Over answer) = Unit {0}

-- the world counted one wait of a call that goes on and none of one that ends, unless the count stands at its last value
abbrev pub CountsWaits : ℕ → ℕ → Step → Type 0
CountsWaits before after Goes = before < 2 ^ 64 - 1 → after ≡ before + 1
CountsWaits before after (Over answer) = before < 2 ^ 64 - 1 → after ≡ before

-- ---- looks

-- the run has led on to here by the acts of the call, and the looks are at most twice as many as these acts, the entries of
-- the last turn before them and of the turn among them, and one
pub record CallPaid (c : Config) (n : ℕ) (start now : Seen) (past : List Act) (old new : ℕ) : Type 0 where
  pub made : List Act
  pub happened : Happened c n start now (made ++ past)
  pub few : new ≤ old + 2 * (length made + (last_named past + all_named made) + 1)

-- so of each run whose last wait didn't last up to its end, or in which no time passed
abbrev pub ManyLook : Config → ℕ → Seen → Seen → ManySessions → ℕ → ℕ → Type 0
ManyLook c n from to before old new = (start : Seen) (past : List Act) → IsMany c n start from past before → IsTimely past → CallPaid c n start to past old new

-- one session takes no look
abbrev pub CourseLooks : Config → ℕ → Seen → Seen → LoopCourse → ℕ → ℕ → Type 0
CourseLooks c n from to (One one) old new = new ≡ old
CourseLooks c n from to (Many many) old new = ManyLook c n from to many old new

-- the looks that a call makes at sessions are few, as those of its kind
abbrev pub LooksFew : Seen → Seen → Loop → ℕ → ℕ → Type 0
LooksFew from to before old new = CourseLooks before.config before.turns from to before.course old new

-- ---- up to the end

-- some acts led on to this answer
pub record EndedOn (c : Config) (n : ℕ) (start now : Seen) (answer : Outcome) : Type 0 where
  pub since : List Act
  pub ended : HasRunEnded c n start now since answer

-- so of each run that the loop stood for
abbrev pub EndsAll : Seen → Seen → Loop → Outcome → Type 0
EndsAll old new before answer = (start : Seen) (past : List Act) → Drives start old past before → EndedOn before.config before.turns start new answer
