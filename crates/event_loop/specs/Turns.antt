-- What a turn makes of the door and of all sessions.
use Rattle.std.specs.Prelude.{vec_len, ◌≡◌, ◌⊎◌, ℕ, ◌+◌, ◌^◌, ◌<◌, ◌≤◌, Bool, true, false, List, ◌∷◌, Option, Some, None}
use Rattle.std.specs.List.{list_any}
use Rattle.relay_model.specs.{Config, ReadyAt, Act, Listed, copied_list}
use Rattle.relay_model.specs.declared.acts.Act.TheVariants.{Turn}
use Rattle.relay_session.specs.{HearsTurn}
use Rattle.program_door.specs.{Door, DoorStands}
use Rattle.fork_table.specs.{row_of}
use Rattle.relay_laws.specs.{is_own_place}
use Rattle.event_loop.specs.declared.all_sessions.Sessions.{Sessions}
use Rattle.event_loop.specs.declared.all_sessions.Row.{Row}
use Rattle.event_loop.specs.Rows.{Has}
use Rattle.event_loop.specs.Courses.{OthersStay, SameRest, SameLists, SameButWork, SameButLists, timer_of}

-- the door has heard it, after whatever it stood for
abbrev pub DoorHearsTurn : Listed → Bool → Door → Door → Type 0
DoorHearsTurn ready stop old new = (c : Config) (past : List Act) (until : Option ℕ) (at : ℕ) → DoorStands c past old → DoorStands c (Turn until at (copied_list ready) stop ∷ past) new

-- the session of a row has, which the row says, and what was counted of it stays; no row came or went
abbrev pub HearsRow : ℕ → ℕ → Listed → Bool → Option Row → Option Row → Type 0
HearsRow made at ready stop None None = Unit {0}
HearsRow made at ready stop (Some old) (Some new) = HearsTurn at ready stop old.member.session new.member.session × (new.turn ≡ made) × (new.member.dumper ≡ old.member.dumper)
HearsRow made at ready stop old new = ⊥

-- all but the rows is as it was
pub record SameBesides (before after : Sessions) : Type 0 where
  pub same : SameRest before after
  pub lists : SameLists before after
  pub ready_same : after.ready ≡ before.ready

-- ---- a turn that says stop

-- that of this number has
pub record RowHeard (t : ℕ) (before after : Sessions) : Type 0 where
  pub row : HearsRow before.made before.clock before.ready true (row_of before.table t) (row_of after.table t)
  pub others : OthersStay t before after
  pub same : SameBesides before after

-- each session has
pub record AllHeard (before after : Sessions) : Type 0 where
  pub rows : (s : ℕ) → HearsRow before.made before.clock before.ready true (row_of before.table s) (row_of after.table s)
  pub same : SameBesides before after

-- ---- a turn that goes on

-- the session of a row hasn't heard the last turn
abbrev pub UnheardRow : ℕ → Option Row → Type 0
UnheardRow made None = Unit {0}
UnheardRow made (Some row) = row.turn < made

-- so each
abbrev pub AllUnheard : Sessions → Type 0
AllUnheard sessions = (s : ℕ) → UnheardRow sessions.made (row_of sessions.table s)

-- some of the entries names a thing of the session's own
abbrev pub names_own : Config → ℕ → List ReadyAt → Bool
names_own c s entries = list_any (λ e. is_own_place c s e.place) entries

-- a session that a turn names has heard it; no other has
abbrev pub NamedRow : ℕ → ℕ → Listed → Bool → Option Row → Option Row → Type 0
NamedRow made at ready false old new = new ≡ old
NamedRow made at ready true old new = HearsRow made at ready false old new

-- the sessions that the entries so far name have
pub record NamedHeard (c : Config) (entries : List ReadyAt) (before after : Sessions) : Type 0 where
  pub rows : (s : ℕ) → NamedRow before.made before.clock before.ready (names_own c s entries) (row_of before.table s) (row_of after.table s)
  pub same : SameBesides before after

-- the session of a row has heard the last turn, where it hadn't yet
pub record HeardOnce (made at : ℕ) (ready : Listed) (old new : Row) : Type 0 where
  pub turn_is : new.turn ≡ made
  pub dumper_same : new.member.dumper ≡ old.member.dumper
  pub hears : old.turn < made → HearsTurn at ready false old.member.session new.member.session
  pub kept : made ≤ old.turn → new.member.session ≡ old.member.session

-- so where there is one; no row came or went
abbrev pub HearsOnce : ℕ → ℕ → Listed → Option Row → Option Row → Type 0
HearsOnce made at ready None None = Unit {0}
HearsOnce made at ready (Some old) (Some new) = HeardOnce made at ready old new
HearsOnce made at ready old new = ⊥

-- that of this number has
pub record RowHearsOnce (t : ℕ) (before after : Sessions) : Type 0 where
  pub row : HearsOnce before.made before.clock before.ready (row_of before.table t) (row_of after.table t)
  pub others : OthersStay t before after
  pub same : SameBesides before after

-- ---- the list of work

-- the sessions that these entries name are in the list of work, and nothing else changed
pub record QueuesNamed (c : Config) (entries : List ReadyAt) (before after : Sessions) : Type 0 where
  pub named : (s : ℕ) → names_own c s entries ≡ true → Has s after.work.items
  pub kept : (s : ℕ) → Has s before.work.items → Has s after.work.items
  pub same : SameButWork before after

-- the timer of each session that isn't in the list of work is as it was
pub record Moves (before after : Sessions) : Type 0 where
  pub kept : (s : ℕ) → Has s before.work.items → Has s after.work.items
  pub moved : (s : ℕ) → (timer_of after s ≡ timer_of before s) ⊎ (Has s after.work.items × (timer_of after s ≡ None))
  pub same : SameButLists before after

-- those whose timer has fallen due are there, and each timer left is still to come
pub record QueuesDue (before after : Sessions) : Type 0 where
  pub moves : Moves before after
  pub ahead : (s at : ℕ) → timer_of after s ≡ Some at → before.clock < at

-- so after a turn, with those that it names
pub record Queued (c : Config) (before after : Sessions) : Type 0 where
  pub named : (s : ℕ) → names_own c s before.ready.entries ≡ true → Has s after.work.items
  pub moved : (s : ℕ) → (timer_of after s ≡ timer_of before s) ⊎ (Has s after.work.items × (timer_of after s ≡ None))
  pub ahead : (s at : ℕ) → timer_of after s ≡ Some at → before.clock < at

-- the sessions that the last turn names have heard it
pub record HearsNamed (c : Config) (before after : Sessions) : Type 0 where
  pub rows : (s : ℕ) → NamedRow before.made before.clock before.ready (names_own c s before.ready.entries) (row_of before.table s) (row_of after.table s)
  pub same : SameRest before after

-- one more turn came at this moment, and the door has heard what the list names
pub record TakesTurn (at : ℕ) (stop : Bool) (before after : Sessions) : Type 0 where
  pub door : DoorHearsTurn before.ready stop before.door after.door
  pub ready_same : after.ready ≡ before.ready
  pub table_same : after.table ≡ before.table
  pub lists : SameLists before after
  pub pending_session_same : after.pending_session ≡ before.pending_session
  pub clock_is : after.clock ≡ at
  pub made_is : after.made ≡ before.made + 1
  pub scratch_same : vec_len after.scratch ≡ vec_len before.scratch
  pub on_clock : at < 2 ^ 64
