-- How the run of all goes on by a turn.
use Rattle.std.specs.Prelude.{vec_len}
use Rattle.std.proofs.Common.{◌≡◌, refl, sym, ap, subst, ◌∙◌, inl, ℕ, suc, ◌+◌, ◌^◌, ◌<◌, ◌≤◌, ◌⊎◌, inr, Bool, true, false, not, ◌||◌, ◌&&◌, List, [], ◌∷◌, Option, Some, None, option_map, arith}
use Rattle.std.proofs.lemmas.Bool.{true≢false, false≢true, or_parts}
use Rattle.relay_model.specs.declared.commands.Config.{Config}
use Rattle.relay_model.specs.declared.places.Place.{Place}
use Rattle.relay_model.specs.declared.places.Half.{Half}
use Rattle.relay_model.specs.declared.readiness.ReadyAt.{ReadyAt}
use Rattle.relay_model.specs.declared.acts.Act.{Act}
use Rattle.relay_model.specs.declared.acts.Act.TheVariants.{Turn}
use Rattle.relay_model.specs.declared.acts.Act.TheVariants as acts
use Rattle.relay_model.specs.declared.acts.Why.TheVariants as whys
use Rattle.relay_model.specs.Places.{same_place, same_half}
use Rattle.relay_model.specs.Readiness.{Listed, names, copied_list}
use Rattle.relay_model.specs.Holding.{Hold, is_free, standing}
use Rattle.relay_model.specs.History.{now as moment, held, turns, memory_said, same_why}
use Rattle.relay_model.specs.Cause.{cause}
use Rattle.relay_model.specs.May.{Legal}
use Rattle.relay_laws.proofs.PlaceLemmas.{same_place_equal}
use Rattle.relay_laws.proofs.Holdings.{standing_held}
use Rattle.world_trait.specs.Recordings.{with_act}
use Rattle.world_trait.specs.Answers.{Did, TurnCounts, NamesHeld}
use Rattle.relay_session.specs.declared.sessions.PendingSession.{PendingSession}
use Rattle.relay_session.specs.Told.{stop_turned}
use Rattle.relay_laws.specs.Sleeps.{Since, just, foreign, quiet, IsBefore}
use Rattle.relay_laws.proofs.Slept.{through}
use Rattle.relay_laws.specs.Stories.{own_entries}
use Rattle.session_laws.proofs.Others.{hears_kept, stopped_kept}
use Rattle.world_trait.specs.Seen.{Seen}
use Rattle.session_driver.specs.Dumpers.{Counted}
use Rattle.session_laws.specs.SessionSets.{Sleeper}
use Rattle.session_laws.proofs.Members.{awake, through_turns, turns_grow}
use Rattle.session_loop.specs.Runs.{Run}
use Rattle.session_loop.proofs.DrainGoing.{told_act, risen_later, risen_kept}
use Rattle.program_door.specs.declared.doors.Door.{Door}
use Rattle.fork_table.specs.Tables.{row_of, Table}
use Rattle.event_loop.specs.declared.all_sessions.Sessions.{Sessions}
use Rattle.event_loop.specs.declared.all_sessions.Row.{Row}
use Rattle.event_loop.specs.Rows.{Has, Wakes, UpRow, RowIs}
use Rattle.event_loop.specs.Courses.{RowOf, NextIs, CountsSessions, Frame, SessionsCourse, SessionsSomewhere, NoWork, SameLists, timer_of}
use Rattle.event_loop.specs.Endings.{LeavesRow, MayEnd}
use Rattle.relay_session.specs.Sessions.{HearsTurn}
use Rattle.event_loop.specs.Turns.{HearsRow, DoorHearsTurn, AllHeard, UnheardRow, AllUnheard, NamedRow, HearsNamed, Queued, TakesTurn, names_own}
use Rattle.event_loop.specs.Waited.{ShortAt, Exit, LeavingAt, IsWaitInOrder, SleepsRow, Stopping}
use Rattle.event_loop.proofs.Lists.{has_none}
use Rattle.event_loop.proofs.Counting.{counted_by}
use Rattle.event_loop.proofs.RowLaws.{awake_wakes, due_wakes, row_listed}
use Rattle.event_loop.proofs.RowRuns.{frame_rest}
use Rattle.event_loop.proofs.Spreading.{up_may}
use Rattle.event_loop.proofs.Hearing.{unnamed_own}
use Rattle.event_loop.proofs.Rooms.{kept_room}

-- ---- what is named is held

names_held : (h : Place → Hold) (entries : List ReadyAt) (p : Place) (half : Half) → NamesHeld h entries → names entries p half ≡ true → is_free (h p) ≡ false
names_held h [] p half n e = absurd (false≢true e)
names_held h (x ∷ entries) p half n e = go (same_place x.place p) (same_half x.half half) refl e (names_held h entries p half n.1)
  where
    go : (a b : Bool) → same_place x.place p ≡ a → (a && b || names entries p half) ≡ true → (names entries p half ≡ true → is_free (h p) ≡ false) → is_free (h p) ≡ false
    go true b s k ih = ap (λ (q : Place). is_free (h q)) (sym (same_place_equal x.place p s)) ∙ n.0
    go false b s k ih = ih k

un_not : (b : Bool) → not b ≡ false → b ≡ true
un_not true e = refl
un_not false e = absurd (true≢false e)

held_named : (c : Config) (n : ℕ) (past : List Act) (h : Place → Hold) (entries : List ReadyAt) → Legal c n past → ((p : Place) → h p ≡ standing past p) → NamesHeld h entries → (p : Place) (half : Half) → names entries p half ≡ true → held past p ≡ true
held_named c n past h entries legal stands named p half e = un_not (held past p) (sym (standing_held c n past p legal) ∙ ap is_free (sym (stands p)) ∙ names_held h entries p half named e)

-- ---- the run

or_stop : (a b : Bool) {A : Type 0} → (a ≡ true → A) → (b ≡ true → A) → (a || b) ≡ true → A
or_stop true b f g e = f refl
or_stop false b f g e = g e

-- what a world did by a turn
pub record Turns (old new : Seen) (until : Option ℕ) (at : ℕ) (ready : Listed) (stop : Bool) : Type 0 where
  pub did : Did old new (Turn until at (copied_list ready) stop)
  pub named : NamesHeld new.held ready.entries
  pub later : old.faults ≤ new.faults
  pub counts : TurnCounts old new at stop

turned_run : (c : Config) (n : ℕ) (start old new : Seen) (past : List Act) (until : Option ℕ) (at : ℕ) (ready : Listed) (stop : Bool) → Run c n start old past → Turns old new until at ready stop → turns past < n → IsWaitInOrder c past until → Run c n start new (Turn until at (copied_list ready) stop ∷ past)
turned_run c n start old new past until at ready stop on t few order = record {
  legal = ((order.rests.no_dump, record { turns_left = few; rests = order.rests; is_until = order.is_until }), on.legal);
  named = (held_named c n past new.held ready.entries on.legal (λ p. t.did.held p ∙ on.holds p) t.named, on.named);
  pairs = on.pairs;
  asked = on.asked;
  told = t.did.told ∙ (ap (option_map (with_act (Turn until at (copied_list ready) stop))) on.told ∙ told_act (Turn until at (copied_list ready) stop) past on.pairs start.told);
  holds = λ p. t.did.held p ∙ on.holds p;
  later = (let a = on.later in let b = t.later in omega (arith, a, b));
  blamed = λ h. risen_kept start.faults old.faults new.faults t.later (on.blamed h);
  waited = (let a = on.waited in let b = t.counts.waits_is in omega (arith, a, b));
  few_waits = (let a = on.few_waits in let b = t.counts.waits_is in omega (arith, a, b));
  later_stops = (let a = on.later_stops in let b = t.counts.stops_is.later in omega (arith, a, b));
  stopped = or_stop stop (stop_turned past) (λ h. risen_later start.stops old.stops new.stops on.later_stops (t.counts.stops_is.rose h)) (λ h. risen_kept start.stops old.stops new.stops t.counts.stops_is.later (on.stopped h));
  clock = (let a = t.counts.clock_is in omega (arith, a));
}

-- ---- rows

-- where no session has work, each sleeps
idle_row : (c : Config) (n : ℕ) (past : List Act) (s : ℕ) (work : List ℕ) (timer : Option ℕ) (row : Row) → work ≡ [] → RowIs c n past s work timer (Some row) → Sleeper c n past s timer row.turn row.member.session × Counted c past s row.member.dumper
idle_row c n past s work timer row e (inl r) = has_none s work e r.0
idle_row c n past s work timer row e (inr o) = o

unheard_row : (c : Config) (n : ℕ) (past : List Act) (s made : ℕ) (work : List ℕ) (timer : Option ℕ) (row : Option Row) → work ≡ [] → made ≡ suc (turns past) → RowIs c n past s work timer row → UnheardRow made row
unheard_row c n past s made work timer None e m r = tt
unheard_row c n past s made work timer (Some row) e m r =
    let o = (idle_row c n past s work timer row e r).0 in
    let g = turns_grow c s timer o.slept past o.since in
    let k = o.turn_is in
    omega (arith, g, k, m)

-- a session that a turn names
named_wakes : (c : Config) (n : ℕ) (past : List Act) (s made : ℕ) (until : Option ℕ) (at : ℕ) (ready : Listed) (timer : Option ℕ) (old new : Row) → made ≡ suc (turns past) → Sleeper c n past s timer old.turn old.member.session × Counted c past s old.member.dumper → HearsTurn at ready false old.member.session new.member.session × (new.turn ≡ made) × (new.member.dumper ≡ old.member.dumper) → Wakes c n (Turn until at (copied_list ready) false ∷ past) s new
named_wakes c n past s made until at ready timer old new m (o, k) (h, e, d) =
    let heard = h c n o.slept s timer o.stands o.wish in
    awake_wakes c n (Turn until at (copied_list ready) false ∷ past) s new
    (awake c n (Turn until at (copied_list ready) false ∷ past) s new.member.session (hears_kept c n s timer o.slept past until timer at (copied_list ready) (copied_list ready) false new.member.session o.begun o.since refl heard))
    (e ∙ m) (counted_by c (Turn until at (copied_list ready) false) past s old.member.dumper new.member.dumper refl d k)

-- each row after a turn
row_up_turned : (c : Config) (n : ℕ) (past : List Act) (s made : ℕ) (until : Option ℕ) (at : ℕ) (ready : Listed) (work : List ℕ) (timer : Option ℕ) (b : Bool) (before after : Option Row) → work ≡ [] → made ≡ suc (turns past) → (b ≡ false → own_entries c s ready.entries ≡ []) → RowIs c n past s work timer before → NamedRow made at ready b before after → UpRow c n (Turn until at (copied_list ready) false ∷ past) s timer after
row_up_turned c n past s made until at ready work timer true None None e m u r h = r
row_up_turned c n past s made until at ready work timer true (Some old) (Some new) e m u r h = named_wakes c n past s made until at ready timer old new m (idle_row c n past s work timer old e r) h
row_up_turned c n past s made until at ready work timer true None (Some new) e m u r h = absurd h
row_up_turned c n past s made until at ready work timer true (Some old) None e m u r h = absurd h
row_up_turned c n past s made until at ready work timer false None after e m u r h = subst (UpRow c n (Turn until at (copied_list ready) false ∷ past) s timer) (sym h) r
row_up_turned c n past s made until at ready work timer false (Some old) after e m u r h = subst (UpRow c n (Turn until at (copied_list ready) false ∷ past) s timer) (sym h) (let o = idle_row c n past s work timer old e r in due_wakes c n past s until at ready timer old (u refl) o.0 o.1)

before_timer : (at : ℕ) (timer : Option ℕ) → ((m : ℕ) → timer ≡ Some m → at < m) → IsBefore at timer
before_timer at None h = tt
before_timer at (Some m) h = h m refl

gone_timer : (s : ℕ) (work : List ℕ) (old new : Option ℕ) → old ≡ None → (new ≡ old) ⊎ (Has s work × (new ≡ None)) → new ≡ None
gone_timer s work old new e (inl k) = k ∙ e
gone_timer s work old new e (inr h) = h.1

row_turned : (c : Config) (n : ℕ) (past : List Act) (s made : ℕ) (until : Option ℕ) (at : ℕ) (ready : Listed) (work more : List ℕ) (old_timer timer : Option ℕ) (b : Bool) (before after : Option Row) → work ≡ [] → made ≡ suc (turns past) → moment past ≤ at → at < 2 ^ 64 → (b ≡ false → own_entries c s ready.entries ≡ []) → (b ≡ true → Has s more) →
    (timer ≡ old_timer) ⊎ (Has s more × (timer ≡ None)) → ((m : ℕ) → timer ≡ Some m → at < m) → RowIs c n past s work old_timer before → NamedRow made at ready b before after → RowIs c n (Turn until at (copied_list ready) false ∷ past) s more timer after
row_turned c n past s made until at ready work more old_timer timer true None None e m f k u w moved ahead r h = (r.0, gone_timer s more old_timer timer r.1 moved)
row_turned c n past s made until at ready work more old_timer timer true (Some old) (Some new) e m f k u w moved ahead r h = inl (w refl, named_wakes c n past s made until at ready old_timer old new m (idle_row c n past s work old_timer old e r) h)
row_turned c n past s made until at ready work more old_timer timer true None (Some new) e m f k u w moved ahead r h = absurd h
row_turned c n past s made until at ready work more old_timer timer true (Some old) None e m f k u w moved ahead r h = absurd h
row_turned c n past s made until at ready work more old_timer timer false None after e m f k u w moved ahead r h = subst (RowIs c n (Turn until at (copied_list ready) false ∷ past) s more timer) (sym h) (r.0, gone_timer s more old_timer timer r.1 moved)
row_turned c n past s made until at ready work more old_timer timer false (Some old) after e m f k u w (inr moved) ahead r h =
    subst (RowIs c n (Turn until at (copied_list ready) false ∷ past) s more timer) (sym h) (let o = idle_row c n past s work old_timer old e r in inl (moved.0, due_wakes c n past s until at ready old_timer old (u refl) o.0 o.1))
row_turned c n past s made until at ready work more old_timer timer false (Some old) after e m f clock u w (inl same) ahead r h =
    let k = idle_row c n past s work old_timer old e r in
    let o : Sleeper c n past s timer old.turn old.member.session = subst (λ (t : Option ℕ). Sleeper c n past s t old.turn old.member.session) (sym same) k.0 in
    subst (RowIs c n (Turn until at (copied_list ready) false ∷ past) s more timer) (sym h)
    (inr (through_turns c n until at (copied_list ready) false past s timer old.turn old.member.session (record { unstopped = refl; unnamed = u refl; forward = f; on_clock = clock; before = before_timer at timer ahead }) o, counted_by c (Turn until at (copied_list ready) false) past s old.member.dumper old.member.dumper refl refl k.1))

row_sleeps_on : (c : Config) (n : ℕ) (past : List Act) (s : ℕ) (work : List ℕ) (timer : Option ℕ) (row : Option Row) → work ≡ [] → RowIs c n past s work timer row → SleepsRow c n past s row
row_sleeps_on c n past s work timer None e r = r.0
row_sleeps_on c n past s work timer (Some row) e r = (timer, row.turn, (idle_row c n past s work timer row e r).0)

-- ---- all

-- between the wait and what the sessions hear of it, the door has heard it, and the list, the clock and the count of
-- turns have changed
pub record HasWaited (at : ℕ) (stop : Bool) (before mid : Sessions) : Type 0 where
  pub door : DoorHearsTurn mid.ready stop before.door mid.door
  pub table_same : mid.table ≡ before.table
  pub lists : SameLists before mid
  pub pending_session_same : mid.pending_session ≡ before.pending_session
  pub clock_is : mid.clock ≡ at
  pub made_is : mid.made ≡ before.made + 1
  pub scratch_same : vec_len mid.scratch ≡ vec_len before.scratch

next_after_turn : (c : Config) (past : List Act) (until : Option ℕ) (at : ℕ) (ready : Listed) (stop : Bool) (pending_session : Option PendingSession) → NextIs c past pending_session → NextIs c (Turn until at ready stop ∷ past) pending_session
next_after_turn c past until at ready stop None h = tt
next_after_turn c past until at ready stop (Some u) h = h

one_turn : (a b k : ℕ) → a ≡ b → k ≡ b + 1 → suc a ≡ k
one_turn a b k e f = omega (arith, e, f)

-- a turn that came where a wait was in order
pub record Waits (c : Config) (n : ℕ) (start old new : Seen) (past : List Act) (until : Option ℕ) (at : ℕ) (stop : Bool) (before mid : Sessions) : Type 0 where
  pub course : SessionsCourse c n start old past before
  pub few : before.made < n
  pub idle : NoWork before
  pub order : IsWaitInOrder c past until
  pub turns : Turns old new until at mid.ready stop
  pub has : HasWaited at stop before mid
  pub on_clock : at < 2 ^ 64

pub has_waited : (at : ℕ) (stop : Bool) (before mid : Sessions) → TakesTurn at stop before mid → HasWaited at stop before mid
has_waited at stop before mid t = record {
  door = subst (λ (l : Listed). DoorHearsTurn l stop before.door mid.door) (sym t.ready_same) t.door;
  table_same = t.table_same;
  lists = t.lists;
  pending_session_same = t.pending_session_same;
  clock_is = t.clock_is;
  made_is = t.made_is;
  scratch_same = t.scratch_same;
}

pub turned_there : (old new : Seen) (until : Option ℕ) (at : ℕ) (ready other : Listed) (stop : Bool) → other ≡ ready → Turns old new until at ready stop → Turns old new until at other stop
turned_there old new until at ready other stop e t = subst (λ (l : Listed). Turns old new until at l stop) (sym e) t

-- the frame after it
frame_turned : (c : Config) (n : ℕ) (start old new : Seen) (past : List Act) (until : Option ℕ) (at : ℕ) (before mid : Sessions) → Waits c n start old new past until at false before mid → Frame c n start new (Turn until at (copied_list mid.ready) false ∷ past) mid
frame_turned c n start old new past until at before mid w =
    let f = w.course.frame in
    let e = f.made_is in
    let few = w.few in
    let table = w.has.table_same in
    record {
      fork = f.fork;
      run = turned_run c n start old new past until at mid.ready false f.run w.turns (omega (arith, few, e)) w.order;
      door = w.has.door c past until at f.door;
      counts = subst (CountsSessions c (Turn until at (copied_list mid.ready) false ∷ past)) (sym table) (record { admitted_is = f.counts.admitted_is; children_is = f.counts.children_is; stop_is = f.counts.stop_is });
      next = subst (NextIs c (Turn until at (copied_list mid.ready) false ∷ past)) (sym w.has.pending_session_same) (next_after_turn c past until at (copied_list mid.ready) false before.pending_session f.next);
      clock_is = w.has.clock_is;
      made_is = one_turn (turns past) before.made mid.made e w.has.made_is;
      room = kept_room _ _ _ f.room w.has.scratch_same;
      unsaid = record { remembered = f.unsaid.remembered; unstopped = f.unsaid.unstopped };
    }

-- the rows as they were before it
row_before : (c : Config) (n : ℕ) (start old new : Seen) (past : List Act) (until : Option ℕ) (at : ℕ) (stop : Bool) (before mid : Sessions) → Waits c n start old new past until at stop before mid → (s : ℕ) → RowOf c n past mid s
row_before c n start old new past until at stop before mid w s = row_listed c n past s before mid (ap (λ (t : Table Row). row_of t s) w.has.table_same) w.has.lists (w.course.rows s)

one_made : (c : Config) (n : ℕ) (start old new : Seen) (past : List Act) (until : Option ℕ) (at : ℕ) (stop : Bool) (before mid : Sessions) → Waits c n start old new past until at stop before mid → mid.made ≡ suc (turns past)
one_made c n start old new past until at stop before mid w = sym (one_turn (turns past) before.made mid.made w.course.frame.made_is w.has.made_is)

no_work : (c : Config) (n : ℕ) (start old new : Seen) (past : List Act) (until : Option ℕ) (at : ℕ) (stop : Bool) (before mid : Sessions) → Waits c n start old new past until at stop before mid → NoWork mid
no_work c n start old new past until at stop before mid w = w.has.lists.work_same ∙ w.idle

named_at : (at : ℕ) (mid after : Sessions) (b : Bool) (s : ℕ) → mid.clock ≡ at → NamedRow mid.made mid.clock mid.ready b (row_of mid.table s) (row_of after.table s) → NamedRow mid.made at mid.ready b (row_of mid.table s) (row_of after.table s)
named_at at mid after b s e h = subst (λ (k : ℕ). NamedRow mid.made k mid.ready b (row_of mid.table s) (row_of after.table s)) e h

pub goes_on : (c : Config) (n : ℕ) (start old new : Seen) (past : List Act) (until : Option ℕ) (at : ℕ) (before mid after : Sessions) → Waits c n start old new past until at false before mid → HearsNamed c mid after → Queued c mid after → SessionsCourse c n start new (Turn until at (copied_list mid.ready) false ∷ past) after
goes_on c n start old new past until at before mid after w h q = record {
  frame = frame_rest c n start new (Turn until at (copied_list mid.ready) false ∷ past) mid after (frame_turned c n start old new past until at before mid w) h.same;
  unowed = refl;
  rows = λ s.
      row_turned c n past s mid.made until at mid.ready mid.work.items after.work.items (timer_of mid s) (timer_of after s) (names_own c s mid.ready.entries) (row_of mid.table s) (row_of after.table s)
      (no_work c n start old new past until at false before mid w) (one_made c n start old new past until at false before mid w) (let a = w.course.frame.run.clock in let b = w.turns.counts.later in omega (arith, a, b)) w.on_clock
      (unnamed_own c s mid.ready.entries) (q.named s) (q.moved s) (λ m e. let k = q.ahead s m e in let l = w.has.clock_is in omega (arith, k, l)) (row_before c n start old new past until at false before mid w s) (named_at at mid after (names_own c s mid.ready.entries) s w.has.clock_is (h.rows s));
}

-- no memory for the list of work
goes_short : (c : Config) (n : ℕ) (start old new : Seen) (past : List Act) (until : Option ℕ) (at : ℕ) (before mid after : Sessions) → Waits c n start old new past until at false before mid → HearsNamed c mid after → MayEnd c n start new whys.Memory after
goes_short c n start old new past until at before mid after w h = record {
  past = Turn until at (copied_list mid.ready) false ∷ past;
  frame = frame_rest c n start new (Turn until at (copied_list mid.ready) false ∷ past) mid after (frame_turned c n start old new past until at before mid w) h.same;
  all = refl;
  ends = inl refl;
  owes = inr refl;
  rows = λ s.
      up_may c n (Turn until at (copied_list mid.ready) false ∷ past) s whys.Memory (timer_of mid s) (row_of after.table s) (inl refl)
      (row_up_turned c n past s mid.made until at mid.ready mid.work.items (timer_of mid s) (names_own c s mid.ready.entries) (row_of mid.table s) (row_of after.table s) (no_work c n start old new past until at false before mid w) (one_made c n start old new past until at false before mid w)
      (unnamed_own c s mid.ready.entries) (row_before c n start old new past until at false before mid w s) (named_at at mid after (names_own c s mid.ready.entries) s w.has.clock_is (h.rows s)));
}

-- the turn says stop
pub stops_at : (c : Config) (n : ℕ) (start old new : Seen) (past : List Act) (until : Option ℕ) (at : ℕ) (before mid : Sessions) → Waits c n start old new past until at true before mid → Stopping c n start new mid
stops_at c n start old new past until at before mid w =
    let f = w.course.frame in
    let e = f.made_is in
    let few = w.few in
    record {
      past = past;
      until = until;
      stopping = record {
        exit = subst (λ (k : ℕ). Exit c n start new (Turn until k (copied_list mid.ready) true ∷ past) whys.Stopped mid.door) (sym w.has.clock_is) (record {
          fork = f.fork;
          run = turned_run c n start old new past until at mid.ready true f.run w.turns (omega (arith, few, e)) w.order;
          stands = w.has.door c past until at f.door;
          may = f.unsaid.remembered;
          ends = inl (refl, f.unsaid.remembered);
          stops = λ _. inl refl;
          owes = inl refl;
        });
        counts = subst (CountsSessions c past) (sym w.has.table_same) f.counts;
        made_is = one_turn (turns past) before.made mid.made e w.has.made_is;
        room = kept_room _ _ _ f.room w.has.scratch_same;
        unsaid = f.unsaid;
        rows = λ s. row_sleeps_on c n past s mid.work.items (timer_of mid s) (row_of mid.table s) (no_work c n start old new past until at true before mid w) (row_before c n start old new past until at true before mid w s);
      };
    }

-- whichever the turn says

pub run_turned : (c : Config) (n : ℕ) (start old new : Seen) (past : List Act) (until : Option ℕ) (at : ℕ) (stop : Bool) (before mid : Sessions) → Waits c n start old new past until at stop before mid → Run c n start new (Turn until at (copied_list mid.ready) stop ∷ past)
run_turned c n start old new past until at stop before mid w =
    let e = w.course.frame.made_is in
    let few = w.few in
    turned_run c n start old new past until at mid.ready stop w.course.frame.run w.turns (omega (arith, few, e)) w.order

pub all_unheard : (c : Config) (now : Seen) (at : ℕ) (stop : Bool) (before mid : Sessions) → SessionsSomewhere c now before → NoWork before → HasWaited at stop before mid → AllUnheard mid
all_unheard c now at stop before mid there idle w s =
    let e = there.course.frame.made_is in
    unheard_row c there.n there.past s mid.made mid.work.items (timer_of mid s) (row_of mid.table s) (w.lists.work_same ∙ idle) (sym (one_turn (turns there.past) before.made mid.made e w.made_is))
    (row_listed c there.n there.past s before mid (ap (λ (t : Table Row). row_of t s) w.table_same) w.lists (there.course.rows s))

pub when_going : (c : Config) (n : ℕ) (start old new : Seen) (past : List Act) (until : Option ℕ) (at : ℕ) (stop : Bool) (before mid after : Sessions) → stop ≡ false → Waits c n start old new past until at stop before mid → HearsNamed c mid after → Queued c mid after → SessionsCourse c n start new (Turn until at (copied_list mid.ready) false ∷ past) after
when_going c n start old new past until at false before mid after e w h q = goes_on c n start old new past until at before mid after w h q
when_going c n start old new past until at true before mid after e w h q = absurd (true≢false e)

pub when_short : (c : Config) (n : ℕ) (start old new : Seen) (past : List Act) (until : Option ℕ) (at : ℕ) (stop : Bool) (before mid after : Sessions) → stop ≡ false → Waits c n start old new past until at stop before mid → HearsNamed c mid after → ShortAt c n start new after
unfolding goes_short
when_short c n start old new past until at false before mid after e w h = record { past = past; until = until; at = at; ready = copied_list mid.ready; ends = goes_short c n start old new past until at before mid after w h; last = refl }
when_short c n start old new past until at true before mid after e w h = absurd (true≢false e)

pub when_stopped : (c : Config) (n : ℕ) (start old new : Seen) (past : List Act) (until : Option ℕ) (at : ℕ) (stop : Bool) (before mid : Sessions) → stop ≡ true → Waits c n start old new past until at stop before mid → Stopping c n start new mid
when_stopped c n start old new past until at true before mid e w = stops_at c n start old new past until at before mid w
when_stopped c n start old new past until at false before mid e w = absurd (false≢true e)

-- ---- each session hears the stop

memory_before : (act : Act) (past : List Act) → memory_said (act ∷ past) ≡ false → memory_said past ≡ false
memory_before (acts.Closed q why) past e = (or_parts (same_why why whys.Memory) (memory_said past) e).1
memory_before act past e = e

memory_then : (c : Config) (s : ℕ) (until : Option ℕ) (slept past : List Act) → Since c s until slept past → memory_said past ≡ false → memory_said slept ≡ false
memory_then c s until slept all just e = e
memory_then c s until slept all (foreign act past f k h) e = memory_then c s until slept past h (memory_before act past e)
memory_then c s until slept all (quiet wait at ready stop past q h) e = memory_then c s until slept past h e

row_stopped : (c : Config) (n : ℕ) (past : List Act) (s made : ℕ) (until : Option ℕ) (at : ℕ) (ready : Listed) (before after : Option Row) → memory_said past ≡ false → SleepsRow c n past s before → HearsRow made at ready true before after → LeavesRow c n (Turn until at (copied_list ready) true ∷ past) s whys.Stopped after
row_stopped c n past s made until at ready None None m r h = r
row_stopped c n past s made until at ready (Some old) (Some new) m r h =
    let o = r.2 in
    let l = h.0 c n o.slept s r.0 o.stands o.wish in
    let k = l.unclosed in
    let said = memory_then c s r.0 o.slept past o.since m in
    let e : cause c (Turn r.0 at (copied_list ready) true ∷ o.slept) s ≡ Some whys.Stopped = rw (k, said) refl in
    record {
      stands = stopped_kept c n s r.0 o.slept past until r.0 at (copied_list ready) (copied_list ready) true new.member.session o.begun o.since refl (l.ending ∙ sym e) l.stands;
      ending = l.ending;
      unclosed = (through c s r.0 o.slept past o.begun o.since).closed_why_same ∙ k;
    }
row_stopped c n past s made until at ready None (Some y) m r h = absurd h
row_stopped c n past s made until at ready (Some x) None m r h = absurd h

pub stopped_all : (c : Config) (n : ℕ) (start now : Seen) (before after : Sessions) → (st : Stopping c n start now before) → AllHeard before after → LeavingAt c n start now (Turn st.until before.clock (copied_list before.ready) true ∷ st.past) whys.Stopped after
stopped_all c n start now before after st h =
    let t = st.stopping in
    let same = h.same.same in
    record {
      exit = subst (λ (d : Door). Exit c n start now (Turn st.until before.clock (copied_list before.ready) true ∷ st.past) whys.Stopped d) (sym same.door_same) t.exit;
      counts = record { admitted_is = same.admitted_same ∙ t.counts.admitted_is; children_is = same.bounds_same.0 ∙ t.counts.children_is; stop_is = same.bounds_same.1 ∙ t.counts.stop_is };
      made_is = t.made_is ∙ sym same.made_same;
      room = kept_room _ _ _ t.room same.scratch_same;
      rows = λ s. row_stopped c n st.past s before.made st.until before.clock before.ready (row_of before.table s) (row_of after.table s) t.unsaid.remembered (t.rows s) (h.rows s);
    }
