-- What is left of a run once no session lives and the door closes what it holds.
use Rattle.std.specs.Prelude.{◌≡◌, ◌⊎◌, ℕ, ◌+◌, ◌*◌, ◌<◌, ◌≤◌, true, false, List, ◌∷◌, ◌++◌, length, Option, Some, None}
use Rattle.relay_model.specs.{Place, Config, Act, copied_list, Why, turns, admitted, holds}
use Rattle.relay_model.specs.declared.acts.Act.TheVariants.{Closed, Turn}
use Rattle.relay_model.specs.declared.acts.Why.TheVariants as whys
use Rattle.program_door.specs.{first_held}
use Rattle.exit_status.specs.{Outcome}
use Rattle.world_trait.specs.Seen.{Seen}
use Rattle.event_loop.specs.declared.all_sessions.Sessions.{Sessions}
use Rattle.event_loop.specs.declared.turned.RunEnd.{RunEnd}
use Rattle.event_loop.specs.declared.turned.RunEnd.TheVariants as ends
use Rattle.event_loop.specs.Closings.{rows_below}
use Rattle.session_loop.specs.{HasRunEnded}
use Rattle.event_loop.specs.Asking.{DoorIsOver}
use Rattle.event_loop.specs.Turned.{NoneLives, RunIs}
use Rattle.event_loop.specs.Waited.{Exit, Leaving}

-- ---- the closings of the door

-- the run is ended for this reason, and no session that has begun holds anything
pub record Vacated (c : Config) (n : ℕ) (start now : Seen) (past : List Act) (why : Why) (sessions : Sessions) : Type 0 where
  pub exit : Exit c n start now past why sessions.door
  pub made_is : turns past ≡ sessions.made
  pub none : (s : ℕ) → s < admitted c past → holds c past s ≡ false

-- some run led here
pub record SomeVacated (now : Seen) (why : Why) (sessions : Sessions) : Type 0 where
  pub c : Config
  pub n : ℕ
  pub start : Seen
  pub past : List Act
  pub vacated : Vacated c n start now past why sessions

-- what is to be closed first was closed, if anything was
pub record HoldsLess (c : Config) (n : ℕ) (start now : Seen) (past : List Act) (why : Why) (sessions : Sessions) : Type 0 where
  pub since : List Act
  pub vacated : Vacated c n start now since why sessions
  pub closed : ((first_held c past ≡ None) × (since ≡ past)) ⊎ ((q : Place) × (first_held c past ≡ Some q) × (since ≡ Closed q why ∷ past))

-- so of each run
abbrev pub ClosesFirst : Seen → Seen → Why → Sessions → Sessions → Type 0
ClosesFirst old new why before after = (c : Config) (n : ℕ) (start : Seen) (past : List Act) → Vacated c n start old past why before → HoldsLess c n start new past why after

-- nothing is held any more
pub record Empty (c : Config) (n : ℕ) (start now : Seen) (before : List Act) (why : Why) (sessions : Sessions) : Type 0 where
  pub made : List Act
  pub vacated : Vacated c n start now (made ++ before) why sessions
  pub no_door : first_held c (made ++ before) ≡ None

-- so of each run
abbrev pub ClosesDoor : Seen → Seen → Why → Sessions → Sessions → Type 0
ClosesDoor old new why before after = (c : Config) (n : ℕ) (start : Seen) (past : List Act) → Vacated c n start old past why before → Empty c n start new past why after

-- ---- the answer

-- why a run is over whose door listens no more: what ended the door's calls, if anything; else a listening that failed
-- with no try left, if one did; else all were served
abbrev pub why_over : Option Why → Option ℕ → Why
why_over (Some why) listening = why
why_over None (Some attempts) = whys.ListenFailed
why_over None None = whys.Served

-- some run led to where its door is over
pub record SomeOver (sessions : Sessions) : Type 0 where
  pub c : Config
  pub n : ℕ
  pub start : Seen
  pub now : Seen
  pub over : DoorIsOver c n start now sessions

-- the answer of a run whose door is over
abbrev pub TellsOver : Sessions → Outcome → Type 0
TellsOver sessions answer =
    (c : Config) (n : ℕ) (start now : Seen) → (over : DoorIsOver c n start now sessions) → NoneLives sessions → HasRunEnded c n start now over.past answer

-- the acts of a run that led to an end
abbrev pub acts_to : (c : Config) (n : ℕ) (start now : Seen) (sessions : Sessions) (end : RunEnd) → RunIs c n start now sessions (Some end) → List Act
acts_to c n start now sessions ends.Over is = is.0.past
acts_to c n start now sessions (ends.Ends why) is = is.past
acts_to c n start now sessions ends.Stops is = Turn is.until sessions.clock (copied_list sessions.ready) true ∷ is.past
acts_to c n start now sessions ends.Short is = is.ends.past

-- a run has ended with this answer, after so many turns; these acts came last, and the looks are no more than twice as many
pub record EndedAt (c : Config) (n : ℕ) (start now : Seen) (before : List Act) (turned : ℕ) (answer : Outcome) (old new : ℕ) : Type 0 where
  pub made : List Act
  pub ended : HasRunEnded c n start now (made ++ before) answer
  pub turned_is : turns (made ++ before) ≡ turned
  pub few : new ≤ old + 2 * length made

-- some run led to such an end
pub record SomeEnd (c : Config) (now : Seen) (end : RunEnd) (sessions : Sessions) : Type 0 where
  pub n : ℕ
  pub start : Seen
  pub end_is : RunIs c n start now sessions (Some end)

-- each run that led to it has ended so, with no further turn
abbrev pub EndsFor : Config → RunEnd → Seen → Seen → Sessions → Outcome → ℕ → ℕ → Type 0
EndsFor c end from to before answer old new =
    (n : ℕ) (start : Seen) (is : RunIs c n start from before (Some end)) → EndedAt c n start to (acts_to c n start from before end is) before.made answer old new

-- some run led here, and each of its sessions was cut for this reason
pub record SomeLeft (c : Config) (now : Seen) (why : Why) (sessions : Sessions) : Type 0 where
  pub n : ℕ
  pub start : Seen
  pub left : Leaving c n start now why sessions

-- a run whose sessions were cut has ended so; each of them made an act at least, and no look came without one
pub record LeftAt (c : Config) (n : ℕ) (start now : Seen) (before : List Act) (first : Sessions) (answer : Outcome) (old new : ℕ) : Type 0 where
  pub made : List Act
  pub ended : HasRunEnded c n start now (made ++ before) answer
  pub turned_is : turns (made ++ before) ≡ first.made
  pub each : (k : ℕ) → rows_below first k ≤ length made
  pub few : new ≤ old + length made

-- so of each that was cut for this reason
abbrev pub EndsLeaving : Config → Why → Seen → Seen → Sessions → Outcome → ℕ → ℕ → Type 0
EndsLeaving c why from to before answer old new = (n : ℕ) (start : Seen) (left : Leaving c n start from why before) → LeftAt c n start to left.past before answer old new
