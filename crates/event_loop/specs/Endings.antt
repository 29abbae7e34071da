-- How the run of all sessions is ended.
use Rattle.std.specs.Prelude.{◌≡◌, ◌⊎◌, ℕ, ◌<◌, ◌≤◌, true, false, List, [], ◌∷◌, Option, Some, None, is_some}
use Rattle.relay_model.specs.{Config, Act, Why, now as moment, turns, accept_failed, program_door, admitted, holds, live, numbers, closed_why}
use Rattle.relay_model.specs.declared.acts.Act.TheVariants.{AcceptFailed}
use Rattle.relay_model.specs.declared.acts.Why.TheVariants as whys
use Rattle.relay_model.specs.Rest.{Rest, owed}
use Rattle.relay_session.specs.{Session, Ends, IsGrounded, Leaver}
use Rattle.fork_table.specs.{row_of}
use Rattle.world_trait.specs.Seen.{Seen}
use Rattle.session_driver.specs.{Counted}
use Rattle.session_laws.specs.{Sleeper, Woke}
use Rattle.session_loop.specs.{ends_all, Ran}
use Rattle.event_loop.specs.declared.all_sessions.Sessions.{Sessions}
use Rattle.event_loop.specs.declared.all_sessions.Row.{Row}
use Rattle.event_loop.specs.Rows.{Has, RowIs}
use Rattle.event_loop.specs.Courses.{Frame, OwesFor, SessionsCourse, HereAt, Beside, SessionsOnward, Keeps, NoWork, SameRest, SameLists, OthersStay, timer_of}

-- a session may be cut for this reason, and nothing of it was closed yet
pub record MayLeave (c : Config) (n : ℕ) (past : List Act) (s : ℕ) (why : Why) (x : Session) : Type 0 where
  pub grounded : IsGrounded c past s x
  pub ends : Ends c n past s why
  pub unclosed : closed_why c past s ≡ None

-- the same of a session, once it has heard the last turn
pub record MayLeaveThen (c : Config) (n : ℕ) (past : List Act) (s : ℕ) (why : Why) (row : Row) : Type 0 where
  pub current : turns past ≤ row.turn → MayLeave c n past s why row.member.session
  pub late : row.turn < turns past → (new : Session) → Woke c n s (moment past) row.member.session new → MayLeave c n past s why new

-- the same of the row of a number; where no session has it, one that began holds nothing any more
abbrev pub MayLeaveRow : Config → ℕ → List Act → ℕ → Why → Option Row → Type 0
MayLeaveRow c n past s why None = s < admitted c past → holds c past s ≡ false
MayLeaveRow c n past s why (Some row) = MayLeaveThen c n past s why row

-- it was cut
abbrev pub LeavesRow : Config → ℕ → List Act → ℕ → Why → Option Row → Type 0
LeavesRow c n past s why None = s < admitted c past → holds c past s ≡ false
LeavesRow c n past s why (Some row) = Leaver c n past s why row.member.session

-- memory is wanting, or the turns are used up while a wait is in order
abbrev pub RunsOut : Config → ℕ → List Act → Why → Type 0
RunsOut c n past why = (why ≡ whys.Memory) ⊎ ((why ≡ whys.Stopped) × (turns past ≡ n) × Rest c past)

-- the run may be ended for this reason
pub record MayEnd (c : Config) (n : ℕ) (start now : Seen) (why : Why) (sessions : Sessions) : Type 0 where
  pub past : List Act
  pub frame : Frame c n start now past sessions
  pub all : ends_all why ≡ true
  pub ends : RunsOut c n past why
  pub owes : OwesFor c past why
  pub rows : (s : ℕ) → MayLeaveRow c n past s why (row_of sessions.table s)

-- so after these acts
abbrev pub MayEndAfter : Config → ℕ → Seen → Seen → Why → Sessions → List Act → Type 0
MayEndAfter c n start now why sessions since = (m : MayEnd c n start now why sessions) × (m.past ≡ since)

-- after so many turns, of which the last came at this moment, a session that may be cut is, and no row comes or goes
abbrev pub CutRow : ℕ → ℕ → Why → ℕ → Option Row → Option Row → Type 0
CutRow made at why s None None = Unit {0}
CutRow made at why s (Some old) (Some new) =
    (new.turn ≡ made)
    × (new.member.dumper ≡ old.member.dumper)
    × ((c : Config) (n : ℕ) (past : List Act) → turns past ≡ made → moment past ≡ at → MayLeaveThen c n past s why old → Leaver c n past s why new.member.session)
CutRow made at why s old new = ⊥

-- each is
pub record CutsRows (why : Why) (before after : Sessions) : Type 0 where
  pub rows : (s : ℕ) → CutRow before.made before.clock why s (row_of before.table s) (row_of after.table s)
  pub same : SameRest before after
  pub lists : SameLists before after

-- that of this number is, and nothing else changed
pub record CutsRow (t : ℕ) (why : Why) (before after : Sessions) : Type 0 where
  pub row : CutRow before.made before.clock why t (row_of before.table t) (row_of after.table t)
  pub others : OthersStay t before after
  pub same : SameRest before after
  pub lists : SameLists before after

-- ---- the calls of sessions

-- only acts of the session of this number came since, or none where it hasn't begun
pub record OnlyActs (c : Config) (t : ℕ) (past since : List Act) : Type 0 where
  pub ran : Ran c t past since
  pub begun : (t < admitted c past) ⊎ (since ≡ past)

-- by acts of its own the session came to where it waits or is gone
pub record RowRan (c : Config) (n : ℕ) (start now : Seen) (past : List Act) (t : ℕ) (sessions : Sessions) : Type 0 where
  pub since : List Act
  pub only : OnlyActs c t past since
  pub frame : Frame c n start now since sessions
  pub unowed : owed c since ≡ None
  pub row : RowIs c n since t [] (timer_of sessions t) (row_of sessions.table t)

-- by acts of its own the session came to where the run may be ended, as far as it is concerned
pub record RowEnds (c : Config) (n : ℕ) (start now : Seen) (past : List Act) (t : ℕ) (why : Why) (sessions : Sessions) : Type 0 where
  pub since : List Act
  pub only : OnlyActs c t past since
  pub frame : Frame c n start now since sessions
  pub all : ends_all why ≡ true
  pub ends : RunsOut c n since why
  pub owes : OwesFor c since why
  pub row : MayLeaveRow c n since t why (row_of sessions.table t)

-- where the session of this number came to, whatever the others are, which stayed
abbrev pub RowRuns : Config → Seen → Seen → ℕ → Sessions → Sessions → Option Why → Type 0
RowRuns c old new t before after None = ((n : ℕ) (start : Seen) (past : List Act) → HereAt c n start old past t before → RowRan c n start new past t after) × Beside t before after × SameRest before after
RowRuns c old new t before after (Some why) = ((n : ℕ) (start : Seen) (past : List Act) → HereAt c n start old past t before → RowEnds c n start new past t why after) × Beside t before after

-- no session has work any more, or the run may be ended
abbrev pub AllRun : Config → Seen → Seen → Sessions → Sessions → Option Why → Type 0
AllRun c old new before after None = Keeps c old new before after × NoWork after × SameRest before after
AllRun c old new before after (Some why) = (n : ℕ) (start : Seen) (past : List Act) → SessionsCourse c n start old past before → MayEnd c n start new why after

-- each session that lives is in the list of work
abbrev pub AllQueued : Sessions → Type 0
AllQueued sessions = (s : ℕ) → is_some (row_of sessions.table s) ≡ true → Has s sessions.work.items

-- ---- a failed accepting

-- the session may be cut for a failed accepting; it lives, and what it read is counted
pub record FailedRow (c : Config) (n : ℕ) (past : List Act) (s : ℕ) (row : Row) : Type 0 where
  pub may : MayLeaveThen c n past s whys.AcceptFailed row
  pub begun : s < numbers c past
  pub lives : live c past s ≡ true
  pub counted : Counted c past s row.member.dumper

-- the same of a number; where no session has it, one that began holds nothing any more, and its timer isn't set
abbrev pub FailedAt : Config → ℕ → List Act → ℕ → Option ℕ → Option Row → Type 0
FailedAt c n past s timer None = (s < admitted c past → holds c past s ≡ false) × (timer ≡ None)
FailedAt c n past s timer (Some row) = FailedRow c n past s row

-- accepting a peer has just failed
pub record Failed (c : Config) (n : ℕ) (start now : Seen) (past : List Act) (sessions : Sessions) : Type 0 where
  pub frame : Frame c n start now (AcceptFailed program_door ∷ past) sessions
  pub rows : (s : ℕ) → FailedAt c n (AcceptFailed program_door ∷ past) s (timer_of sessions s) (row_of sessions.table s)
  pub idle : NoWork sessions

-- some run led here
pub record SomeFailed (c : Config) (now : Seen) (sessions : Sessions) : Type 0 where
  pub n : ℕ
  pub start : Seen
  pub past : List Act
  pub failed : Failed c n start now past sessions

-- each session was cut and has closed all, or the run may be ended
abbrev pub EndsRows : Config → Seen → Seen → Sessions → Sessions → Option Why → Type 0
EndsRows c old new before after None = ((n : ℕ) (start : Seen) (past : List Act) → Failed c n start old past before → SessionsOnward c n start new after) × NoWork after × SameRest before after
EndsRows c old new before after (Some why) = (n : ℕ) (start : Seen) (past : List Act) → Failed c n start old past before → MayEnd c n start new why after

-- ---- a failed accepting, session by session

-- a session that lives has work and may be cut for a failed accepting, or has none and sleeps
abbrev pub EndingRow : Config → ℕ → List Act → ℕ → List ℕ → Option ℕ → Option Row → Type 0
EndingRow c n past s work timer None = (s < admitted c past → holds c past s ≡ false) × (timer ≡ None)
EndingRow c n past s work timer (Some row) = (Has s work × FailedRow c n past s row) ⊎ ((Has s work → ⊥) × Sleeper c n past s timer row.turn row.member.session × Counted c past s row.member.dumper)

-- accepting a peer has failed, which no session that has work was cut for yet
pub record Ending (c : Config) (n : ℕ) (start now : Seen) (past : List Act) (sessions : Sessions) : Type 0 where
  pub frame : Frame c n start now past sessions
  pub unowed : owed c past ≡ None
  pub failed : accept_failed past program_door ≡ true
  pub rows : (s : ℕ) → EndingRow c n past s sessions.work.items (timer_of sessions s) (row_of sessions.table s)

-- some run led here
pub record SomeEnding (c : Config) (now : Seen) (sessions : Sessions) : Type 0 where
  pub n : ℕ
  pub start : Seen
  pub past : List Act
  pub ending : Ending c n start now past sessions

-- no number is twice in the list
abbrev pub Once : List ℕ → Type 0
Once [] = Unit {0}
Once (s ∷ ss) = (Has s ss → ⊥) × Once ss

-- the list of work has each number once, and only of sessions that live
pub record WorkLives (sessions : Sessions) : Type 0 where
  pub once : Once sessions.work.items
  pub lives : (s : ℕ) → Has s sessions.work.items → is_some (row_of sessions.table s) ≡ true
