-- What the run of one row makes of the course of all.
use Rattle.std.proofs.Common.{◌≡◌, ◌≢◌, refl, sym, ap, subst, ◌∙◌, ℕ, suc, ◌+◌, ◌≤◌, ◌<◌, ◌⊎◌, inl, inr, true, false, List, [], length, Option, Some, None, arith}
use Rattle.std.proofs.lemmas.Bool.{cases_eq}
use Rattle.relay_model.specs.declared.commands.Config.{Config}
use Rattle.relay_model.specs.declared.acts.Act.{Act}
use Rattle.relay_model.specs.declared.acts.Why.{Why}
use Rattle.relay_model.specs.declared.acts.Why.TheVariants as whys
use Rattle.relay_model.specs.History.{turns}
use Rattle.relay_model.specs.Rest.{owed}
use Rattle.relay_model.specs.Sessions.{admitted, holds}
use Rattle.relay_model.specs.May.{Legal}
use Rattle.relay_model.specs.Configs.{has_fork}
use Rattle.relay_session.specs.declared.sessions.Session.{Session}
use Rattle.relay_session.specs.declared.sessions.PendingSession.{PendingSession}
use Rattle.relay_session.specs.declared.wishes.Wish.TheVariants as wishes
use Rattle.relay_session.specs.Sessions.{Stands, IsPendingSession, wish_of}
use Rattle.relay_session.specs.States.{Wished}
use Rattle.program_door.specs.Stands.{DoorStands}
use Rattle.program_door.proofs.Moves.{numbers_are}
use Rattle.fork_table.specs.Tables.{Table, row_of}
use Rattle.world_trait.specs.Seen.{Seen}
use Rattle.session_laws.specs.SessionSets.{Sleeper, Waker}
use Rattle.session_laws.proofs.Members.{asleep, awake_asleep}
use Rattle.session_driver.specs.Dumpers.{Counted}
use Rattle.session_loop.specs.Runs.{Run, RunOf, Runs, Owes, stayed}
use Rattle.session_loop.specs.declared.pauses.Pause.{Pause}
use Rattle.session_loop.specs.declared.pauses.Pause.TheVariants as pauses
use Rattle.event_loop.specs.declared.all_sessions.Sessions.{Sessions}
use Rattle.session_loop.specs.Pauses.{Spreads, ends_all}
use Rattle.event_loop.specs.declared.all_sessions.Row.{Row}
use Rattle.event_loop.specs.Rows.{Wakes, Wakened, RowIs, UpRow}
use Rattle.event_loop.specs.Courses.{RowOf, NextIs, OwesFor, Frame, SessionsCourse, CourseAt, HereAt, Beside, SessionsSomewhere, SomewhereAt, Keeps, HasRow, DrainsTo, SetsTimer, TakesFirst, TakesNone, Retires, Settles, SameRest, SameLists, timer_of}
use Rattle.event_loop.specs.Endings.{MayLeaveRow, MayEnd, RunsOut, OnlyActs, RowRan, RowEnds, RowRuns, MayEndAfter}
use Rattle.event_loop.proofs.Lists.{has_rest}
use Rattle.event_loop.proofs.Others.{Leave, ran_leaves}
use Rattle.event_loop.proofs.RowLaws.{row_up, row_as, row_listed, row_work, same_timer, same_work, up_listed, wakened_awake}
use Rattle.event_loop.proofs.Spreading.{waker_may, spread_tells, up_may, heard_may}
use Rattle.event_loop.proofs.Rooms.{kept_room}

pub next_kept : (c : Config) (past since : List Act) (pending_session : Option PendingSession) → admitted c since ≡ admitted c past → NextIs c past pending_session → NextIs c since pending_session
next_kept c past since None e h = tt
next_kept c past since (Some u) e h = subst (λ (k : ℕ). IsPendingSession c k u) (sym e) h

pub frame_on : (c : Config) (n : ℕ) (start old new : Seen) (past since : List Act) (t : ℕ) (before after : Sessions) → Frame c n start old past before → Run c n start new since → Leave c n past since t → SameRest before after → Frame c n start new since after
frame_on c n start old new past since t before after f run l same = record {
  fork = f.fork;
  run = run;
  door = subst (DoorStands c since) (sym same.door_same) (l.door before.door f.door);
  counts = record {
    admitted_is = same.admitted_same ∙ f.counts.admitted_is ∙ sym l.admitted_same;
    children_is = same.bounds_same.0 ∙ f.counts.children_is;
    stop_is = same.bounds_same.1 ∙ f.counts.stop_is;
  };
  next = subst (NextIs c since) (sym same.pending_session_same) (next_kept c past since before.pending_session l.admitted_same f.next);
  clock_is = same.clock_same ∙ f.clock_is ∙ sym l.moment_same;
  made_is = l.turns_same ∙ f.made_is ∙ sym same.made_same;
  room = kept_room _ _ _ f.room same.scratch_same;
  unsaid = l.unsaid f.unsaid;
}

-- nothing of the rest changed
pub frame_rest : (c : Config) (n : ℕ) (start now : Seen) (past : List Act) (before after : Sessions) → Frame c n start now past before → SameRest before after → Frame c n start now past after
frame_rest c n start now past before after f same = record {
  fork = f.fork;
  run = f.run;
  door = subst (DoorStands c past) (sym same.door_same) f.door;
  counts = record { admitted_is = same.admitted_same ∙ f.counts.admitted_is; children_is = same.bounds_same.0 ∙ f.counts.children_is; stop_is = same.bounds_same.1 ∙ f.counts.stop_is };
  next = subst (NextIs c past) (sym same.pending_session_same) f.next;
  clock_is = same.clock_same ∙ f.clock_is;
  made_is = f.made_is ∙ sym same.made_same;
  room = kept_room _ _ _ f.room same.scratch_same;
  unsaid = f.unsaid;
}

pub rest_itself : (sessions : Sessions) → SameRest sessions sessions
rest_itself sessions = record { door_same = refl; pending_session_same = refl; clock_same = refl; made_same = refl; scratch_same = refl; admitted_same = refl; bounds_same = (refl, refl) }

pub rest_then : (one two three : Sessions) → SameRest one two → SameRest two three → SameRest one three
rest_then one two three r same = record {
  door_same = same.door_same ∙ r.door_same;
  pending_session_same = same.pending_session_same ∙ r.pending_session_same;
  clock_same = same.clock_same ∙ r.clock_same;
  made_same = same.made_same ∙ r.made_same;
  scratch_same = same.scratch_same ∙ r.scratch_same;
  admitted_same = same.admitted_same ∙ r.admitted_same;
  bounds_same = (same.bounds_same.0 ∙ r.bounds_same.0, same.bounds_same.1 ∙ r.bounds_same.1);
}

-- ---- one row and all others

pub others_on : (c : Config) (n : ℕ) (past since : List Act) (t : ℕ) (before after : Sessions) → Leave c n past since t → ((s : ℕ) → s ≢ t → RowOf c n past before s) → Beside t before after → (s : ℕ) → s ≢ t → RowOf c n since after s
others_on c n past since t before after l rows b s apart =
    row_as c n since s before after (b.rows s apart) (b.timers s apart) (same_work s before after b.work_same)
    (l.rows s before.work.items (timer_of before s) (row_of before.table s) apart (rows s apart))

pub with_row : (c : Config) (n : ℕ) (since : List Act) (t : ℕ) (after : Sessions) → RowOf c n since after t → ((s : ℕ) → s ≢ t → RowOf c n since after s) → (s : ℕ) → RowOf c n since after s
with_row c n since t after here others s = go (cases_eq s t)
  where
    go : (s ≡ t) ⊎ (s ≡ t → ⊥) → RowOf c n since after s
    go (inl e) = subst (RowOf c n since after) (sym e) here
    go (inr apart) = others s apart

-- the run may be ended where one row may, and all others are as they are
pub may_end_after : (c : Config) (n : ℕ) (start now : Seen) (past : List Act) (t : ℕ) (why : Why) (sessions : Sessions) → Frame c n start now past sessions → ends_all why ≡ true → RunsOut c n past why → OwesFor c past why → MayLeaveRow c n past t why (row_of sessions.table t) → ((s : ℕ) → s ≢ t → RowOf c n past sessions s) → MayEndAfter c n start now why sessions past
may_end_after c n start now past t why sessions frame all ends owes here others = (record { past = past; frame = frame; all = all; ends = ends; owes = owes; rows = λ s. go s (cases_eq s t) }, refl)
  where
    go : (s : ℕ) → (s ≡ t) ⊎ (s ≡ t → ⊥) → MayLeaveRow c n past s why (row_of sessions.table s)
    go s (inl e) = subst (λ (k : ℕ). MayLeaveRow c n past k why (row_of sessions.table k)) (sym e) here
    go s (inr apart) = up_may c n past s why (timer_of sessions s) (row_of sessions.table s) ends (row_up c n past s sessions.work.items (timer_of sessions s) (row_of sessions.table s) (others s apart))

-- ---- a row that runs

-- where its session came to
pub record RowWent (c : Config) (n : ℕ) (start new : Seen) (past : List Act) (t : ℕ) (is : Row) : Type 0 where
  pub since : List Act
  pub only : OnlyActs c t past since
  pub run : RunOf c n start new since t is.member
  pub leave : Leave c n past since t
  pub heard : is.turn ≡ turns since

-- the session that is to make its calls has heard the last turn
pub up_awake : (c : Config) (n : ℕ) (start now : Seen) (past : List Act) (t : ℕ) (sessions : Sessions) (was up : Row) → HereAt c n start now past t sessions → HasRow sessions t was → Wakened sessions.made sessions.clock was up → Waker c n past t up.member.session
up_awake c n start now past t sessions was up on had wakened =
    wakened_awake c n past t sessions.made sessions.clock was up on.frame.made_is on.frame.clock_is (subst (UpRow c n past t (timer_of sessions t)) had on.here) wakened

up_counted : (c : Config) (n : ℕ) (start now : Seen) (past : List Act) (t : ℕ) (sessions : Sessions) (was up : Row) → HereAt c n start now past t sessions → HasRow sessions t was → Wakened sessions.made sessions.clock was up → Counted c past t up.member.dumper
up_counted c n start now past t sessions was up on had wakened =
    let r : Wakes c n past t was = subst (UpRow c n past t (timer_of sessions t)) had on.here in
    subst (Counted c past t) (sym wakened.dumper_same) r.counted

pub row_went : (c : Config) (n : ℕ) (start old new : Seen) (past : List Act) (t : ℕ) (before after : Sessions) (pause : Pause) → HereAt c n start old past t before → (d : DrainsTo c old new t before after pause) → RowWent c n start new past t d.is
row_went c n start old new past t before after pause on d =
    let w = up_awake c n start old past t before d.was d.up on d.had d.wakened in
    let o = d.runs n start past t (record { run = on.frame.run; stands = w.stands; counted = up_counted c n start old past t before d.was d.up on d.had d.wakened; owes = inl on.unowed }) in
    let e = numbers_are c past on.frame.fork in
    let b = w.stands.fields.ground.begun in
    let begun : t < admitted c past = omega (arith, b, e) in
    let l = ran_leaves c n t past o.since on.frame.fork o.run.run.legal begun o.ran in
    record { since = o.since; only = record { ran = o.ran; begun = inl begun }; run = o.run; leave = l; heard = d.turn_same ∙ (d.wakened.turn_is ∙ (sym on.frame.made_is ∙ sym l.turns_same)) }

-- what a drained row leaves of the others
drained_beside : (c : Config) (old new : Seen) (t : ℕ) (before after : Sessions) (pause : Pause) → DrainsTo c old new t before after pause → Beside t before after
drained_beside c old new t before after pause d = record { rows = d.others; timers = λ s apart. same_timer s before after d.lists.timers_same; work_same = d.lists.work_same }

beside_set : (t : ℕ) (before mid after : Sessions) → Beside t before mid → SetsTimer t mid after → Beside t before after
beside_set t before mid after b set = record {
  rows = λ s apart. ap (λ (k : Table Row). row_of k s) set.table_same ∙ b.rows s apart;
  timers = λ s apart. set.others s apart ∙ b.timers s apart;
  work_same = set.work_same ∙ b.work_same;
}

-- no dump is owed where the session wishes for no closing
unowed_asleep : (c : Config) (past : List Act) (x : Session) (until : Option ℕ) → wish_of x ≡ wishes.Sleep until → Owes c past x → owed c past ≡ None
unowed_asleep c past x until w (inl e) = e
unowed_asleep c past x until w (inr (q, e, k)) = let z : wishes.Sleep until ≡ wishes.Close q whys.Memory = sym w ∙ e in let y : ⊥ = cc in absurd y

unowed_done : (c : Config) (past : List Act) (x : Session) (why : Why) → wish_of x ≡ wishes.Done why → Owes c past x → owed c past ≡ None
unowed_done c past x why w (inl e) = e
unowed_done c past x why w (inr (q, e, k)) = let z : wishes.Done why ≡ wishes.Close q whys.Memory = sym w ∙ e in let y : ⊥ = cc in absurd y

owes_spread : (c : Config) (past : List Act) (x : Session) (why : Why) → Spreads (wish_of x) why → Owes c past x → OwesFor c past why
owes_spread c past x why w (inl e) = inl e
owes_spread c past x why (p, d, h) (inr (q, e, k)) = let z : wishes.Close p why ≡ wishes.Close q whys.Memory = sym d ∙ e in let y : why ≡ whys.Memory = cc in inr y

pub row_sleeps : (c : Config) (old new : Seen) (t : ℕ) (before mid after : Sessions) (until : Option ℕ) → DrainsTo c old new t before mid (pauses.Sleep until) → SetsTimer t mid after → timer_of after t ≡ until → RowRuns c old new t before after None
row_sleeps c old new t before mid after until d set timer = (
  λ n start past on.
      let w = row_went c n start old new past t before mid (pauses.Sleep until) on d in
      let o = asleep c n w.since t until d.is.member.session w.run.stands d.paused.0 in
      let p : Sleeper c n w.since t until d.is.turn d.is.member.session = subst (λ (k : ℕ). Sleeper c n w.since t until k d.is.member.session) (sym w.heard) o in
      let q : Sleeper c n w.since t (timer_of after t) d.is.turn d.is.member.session = subst (λ (k : Option ℕ). Sleeper c n w.since t k d.is.turn d.is.member.session) (sym timer) p in
      let has : row_of after.table t ≡ Some d.is = ap (λ (k : Table Row). row_of k t) set.table_same ∙ d.has in
      record {
        since = w.since;
        only = w.only;
        frame = frame_on c n start old new past w.since t before after on.frame w.run.run w.leave (rest_then before mid after d.same set.same);
        unowed = unowed_asleep c w.since d.is.member.session until d.paused.0 w.run.owes;
        row = subst (RowIs c n w.since t [] (timer_of after t)) (sym has) (inr (q, w.run.counted));
      },
  beside_set t before mid after (drained_beside c old new t before mid (pauses.Sleep until) d) set,
  rest_then before mid after d.same set.same,
)

-- no room for its timer
pub row_unset : (c : Config) (old new : Seen) (t : ℕ) (before mid after : Sessions) (until : Option ℕ) → DrainsTo c old new t before mid (pauses.Sleep until) → SetsTimer t mid after → RowRuns c old new t before after (Some whys.Memory)
row_unset c old new t before mid after until d set = (
  λ n start past on.
      let w = row_went c n start old new past t before mid (pauses.Sleep until) on d in
      let has : row_of after.table t ≡ Some d.is = ap (λ (k : Table Row). row_of k t) set.table_same ∙ d.has in
      let may = waker_may c n w.since t whys.Memory d.is.member.session (inl refl) (awake_asleep c n w.since t until d.is.member.session w.run.stands d.paused.0) in
      record {
        since = w.since;
        only = w.only;
        frame = frame_on c n start old new past w.since t before after on.frame w.run.run w.leave (rest_then before mid after d.same set.same);
        all = refl;
        ends = inl refl;
        owes = inr refl;
        row = subst (MayLeaveRow c n w.since t whys.Memory) (sym has) (heard_may c n w.since t whys.Memory d.is w.heard may);
      },
  beside_set t before mid after (drained_beside c old new t before mid (pauses.Sleep until) d) set,
)

-- a session that is done holds nothing
done_holds : (c : Config) (n : ℕ) (past : List Act) (t : ℕ) (x : Session) (why : Why) → Stands c n past t x → wish_of x ≡ wishes.Done why → holds c past t ≡ false
done_holds c n past t x why st e = (subst (Wished c n past t) e st.allowed.0).nothing_held

beside_then : (t : ℕ) (one two three : Sessions) → Beside t one two → Beside t two three → Beside t one three
beside_then t one two three a b = record {
  rows = λ s apart. b.rows s apart ∙ a.rows s apart;
  timers = λ s apart. b.timers s apart ∙ a.timers s apart;
  work_same = b.work_same ∙ a.work_same;
}

pub row_done : (c : Config) (old new : Seen) (t : ℕ) (before mid after : Sessions) → DrainsTo c old new t before mid pauses.Done → Retires t mid after → RowRuns c old new t before after None
row_done c old new t before mid after d r = (
  λ n start past on.
      let w = row_went c n start old new past t before mid pauses.Done on d in
      record {
        since = w.since;
        only = w.only;
        frame = frame_on c n start old new past w.since t before after on.frame w.run.run w.leave (rest_then before mid after d.same r.same);
        unowed = unowed_done c w.since d.is.member.session d.paused.0 d.paused.1 w.run.owes;
        row = subst (RowIs c n w.since t [] (timer_of after t)) (sym r.gone) (λ below. done_holds c n w.since t d.is.member.session d.paused.0 w.run.stands d.paused.1, r.timer_gone);
      },
  beside_then t before mid after (drained_beside c old new t before mid pauses.Done d) (record { rows = r.rows; timers = r.timers; work_same = r.work_same }),
  rest_then before mid after d.same r.same,
)

pub row_spreads : (c : Config) (old new : Seen) (t : ℕ) (why : Why) (before after : Sessions) → DrainsTo c old new t before after (pauses.Spreads why) → RowRuns c old new t before after (Some why)
row_spreads c old new t why before after d = (
  λ n start past on.
      let w = row_went c n start old new past t before after (pauses.Spreads why) on d in
      let f = frame_on c n start old new past w.since t before after on.frame w.run.run w.leave d.same in
      let told = spread_tells c n w.since t why d.is.member.session f.unsaid w.run.stands d.paused in
      record {
        since = w.since;
        only = w.only;
        frame = f;
        all = d.paused.2;
        ends = told.ends;
        owes = owes_spread c w.since d.is.member.session why d.paused w.run.owes;
        row = subst (MayLeaveRow c n w.since t why) (sym d.has) (heard_may c n w.since t why d.is w.heard told.may);
      },
  drained_beside c old new t before after (pauses.Spreads why) d,
)

-- what comes of its pause
pub row_settles : (c : Config) (old new : Seen) (t : ℕ) (before mid after : Sessions) (pause : Pause) (result : Option Why) → DrainsTo c old new t before mid pause → Settles t pause mid after result → RowRuns c old new t before after result
row_settles c old new t before mid after (pauses.Sleep until) None d s = row_sleeps c old new t before mid after until d s.0 s.1
row_settles c old new t before mid after (pauses.Sleep until) (Some why) d s = subst (λ (w : Why). RowRuns c old new t before after (Some w)) (sym s.1) (row_unset c old new t before mid after until d s.0)
row_settles c old new t before mid after pauses.Done None d s = row_done c old new t before mid after d s
row_settles c old new t before mid after pauses.Done (Some why) d s = absurd s
row_settles c old new t before mid after (pauses.Spreads why) None d s = absurd s
row_settles c old new t before mid after (pauses.Spreads why) (Some other) d s =
    subst (λ (w : Why). RowRuns c old new t before after (Some w)) (sym s.1) (subst (λ (k : Sessions). RowRuns c old new t before k (Some why)) (sym s.0) (row_spreads c old new t why before mid d))

-- no session has this number
pub row_absent : (c : Config) (old new : Seen) (t : ℕ) (before after : Sessions) → (row_of before.table t ≡ None) × (new ≡ old) × (after ≡ before) → RowRuns c old new t before after None
row_absent c old new t before after d =
    subst (λ (k : Seen). RowRuns c old k t before after None) (sym d.1)
    (subst (λ (k : Sessions). RowRuns c old old t before k None) (sym d.2) (
      λ n start past on. record {
        since = past;
        only = record { ran = stayed; begun = inr refl };
        frame = on.frame;
        unowed = on.unowed;
        row = subst (RowIs c n past t [] (timer_of before t)) (sym d.0) (subst (UpRow c n past t (timer_of before t)) d.0 on.here);
      },
      record { rows = λ s apart. refl; timers = λ s apart. refl; work_same = refl },
      rest_itself before,
    ))

-- ---- and what that makes of all

pub here_of : (c : Config) (n : ℕ) (start now : Seen) (past : List Act) (t : ℕ) (sessions : Sessions) → CourseAt c n start now past t sessions → HereAt c n start now past t sessions
here_of c n start now past t sessions on = record { frame = on.frame; unowed = on.unowed; here = on.here }

pub only_leaves : (c : Config) (n t : ℕ) (past since : List Act) → has_fork c ≡ true → Legal c n since → OnlyActs c t past since → Leave c n past since t
only_leaves c n t past since fork legal only = go only.begun
  where
    go : (t < admitted c past) ⊎ (since ≡ past) → Leave c n past since t
    go (inl b) = ran_leaves c n t past since fork legal b only.ran
    go (inr e) = subst (λ (x : List Act). Leave c n past x t) (sym e) (record { admitted_same = refl; moment_same = refl; turns_same = refl; unsaid = λ u. u; door = λ door d. d; rows = λ s work timer row apart r. r })

pub ran_course : (c : Config) (n : ℕ) (start old new : Seen) (past : List Act) (t : ℕ) (before after : Sessions) → CourseAt c n start old past t before → (r : RowRan c n start new past t after) → Beside t before after → SessionsCourse c n start new r.since after
ran_course c n start old new past t before after on r b = record {
  frame = r.frame;
  unowed = r.unowed;
  rows = with_row c n r.since t after (row_work c n r.since t [] after.work.items (timer_of after t) (row_of after.table t) (λ h. absurd h) r.row)
      (others_on c n past r.since t before after (only_leaves c n t past r.since on.frame.fork r.frame.run.legal r.only) on.rows b);
}

pub ran_ends_after : (c : Config) (n : ℕ) (start old new : Seen) (past : List Act) (t : ℕ) (why : Why) (before after : Sessions) → CourseAt c n start old past t before → (r : RowEnds c n start new past t why after) → Beside t before after → MayEndAfter c n start new why after r.since
ran_ends_after c n start old new past t why before after on r b =
    may_end_after c n start new r.since t why after r.frame r.all r.ends r.owes r.row
    (others_on c n past r.since t before after (only_leaves c n t past r.since on.frame.fork r.frame.run.legal r.only) on.rows b)

pub ran_ends : (c : Config) (n : ℕ) (start old new : Seen) (past : List Act) (t : ℕ) (why : Why) (before after : Sessions) → CourseAt c n start old past t before → RowEnds c n start new past t why after → Beside t before after → MayEnd c n start new why after
ran_ends c n start old new past t why before after on r b = (ran_ends_after c n start old new past t why before after on r b).0

-- ---- a row that is taken out of the list of work

pub taken_at : (c : Config) (n : ℕ) (start now : Seen) (past : List Act) (k : ℕ) (before after : Sessions) → SessionsCourse c n start now past before → TakesFirst k before after → CourseAt c n start now past k after
taken_at c n start now past k before after on t = record {
  frame = frame_rest c n start now past before after on.frame t.same;
  unowed = on.unowed;
  rows = λ s apart. row_as c n past s before after (row_same s) (same_timer s before after t.timers_same) (has_rest s k before.work.items after.work.items t.work_is apart) (on.rows s);
  here = up_listed c n past k before after (row_same k) (same_timer k before after t.timers_same) (row_up c n past k before.work.items (timer_of before k) (row_of before.table k) (on.rows k));
}
  where
    row_same : (s : ℕ) → row_of after.table s ≡ row_of before.table s
    row_same s = ap (λ (x : Table Row). row_of x s) t.table_same

pub some_taken : (c : Config) (now : Seen) (k : ℕ) (before after : Sessions) → SessionsSomewhere c now before → TakesFirst k before after → SomewhereAt c now k after
some_taken c now k before after at t = record { n = at.n; start = at.start; past = at.past; course = here_of c at.n at.start now at.past k after (taken_at c at.n at.start now at.past k before after at.course t) }

pub keeps_run : (c : Config) (old mid new : Seen) (k : ℕ) (one two three four : Sessions) → Keeps c old mid one two → TakesFirst k two three → RowRuns c mid new k three four None → Keeps c old new one four
keeps_run c old mid new k one two three four keeps t run = λ n start past on.
    let a = keeps n start past on in
    let at = taken_at c n start mid a.past k two three a.course t in
    let r = run.0 n start a.past (here_of c n start mid a.past k three at) in
    record { past = r.since; course = ran_course c n start mid new a.past k three four at r run.1 }

pub fewer_works : (k : ℕ) (before mid after : Sessions) → TakesFirst k before mid → after.work.items ≡ mid.work.items → length after.work.items < length before.work.items
fewer_works k before mid after t e = let x = ap length e in let y : length before.work.items ≡ suc (length mid.work.items) = ap length t.work_is in omega (arith, x, y)

pub lists_itself : (sessions : Sessions) → SameLists sessions sessions
lists_itself sessions = record { work_same = refl; timers_same = refl }

pub lists_then : (one two three : Sessions) → SameLists one two → SameLists two three → SameLists one three
lists_then one two three a b = record { work_same = b.work_same ∙ a.work_same; timers_same = b.timers_same ∙ a.timers_same }

pub drains_up : (c : Config) (now : Seen) (t : ℕ) (sessions : Sessions) (was up : Row) → SomewhereAt c now t sessions → HasRow sessions t was → Wakened sessions.made sessions.clock was up → Runs c now up.member
drains_up c now t sessions was up at had wakened = record { n = at.n; start = at.start; past = at.past; s = t; run = record { run = at.course.frame.run; stands = (up_awake c at.n at.start now at.past t sessions was up at.course had wakened).stands; counted = up_counted c at.n at.start now at.past t sessions was up at.course had wakened; owes = inl at.course.unowed } }

-- the list of work is empty
pub none_taken : (c : Config) (n : ℕ) (start now : Seen) (past : List Act) (before after : Sessions) → SessionsCourse c n start now past before → TakesNone before after → SessionsCourse c n start now past after
none_taken c n start now past before after on t = record {
  frame = frame_rest c n start now past before after on.frame t.same;
  unowed = on.unowed;
  rows = λ s. row_listed c n past s before after (ap (λ (x : Table Row). row_of x s) t.table_same) t.lists (on.rows s);
}

pub keeps_none : (c : Config) (old mid : Seen) (one two three : Sessions) → Keeps c old mid one two → TakesNone two three → Keeps c old mid one three
keeps_none c old mid one two three keeps t = λ n start past on. let a = keeps n start past on in record { past = a.past; course = none_taken c n start mid a.past two three a.course t }

-- ---- all but the rows and the lists

pub settled_rest : (t : ℕ) (before mid after : Sessions) (pause : Pause) (result : Option Why) → SameRest before mid → Settles t pause mid after result → SameRest before after
settled_rest t before mid after (pauses.Sleep until) None same s = rest_then before mid after same s.0.same
settled_rest t before mid after (pauses.Sleep until) (Some why) same s = rest_then before mid after same s.0.same
settled_rest t before mid after pauses.Done None same s = rest_then before mid after same s.same
settled_rest t before mid after pauses.Done (Some why) same s = absurd s
settled_rest t before mid after (pauses.Spreads why) None same s = absurd s
settled_rest t before mid after (pauses.Spreads why) (Some other) same s = subst (SameRest before) (sym s.0) same

pub absent_rest : (before after : Sessions) → after ≡ before → SameRest before after
absent_rest before after e = subst (SameRest before) (sym e) (rest_itself before)

pub one_fewer : (k : ℕ) (before after : Sessions) → TakesFirst k before after → length before.work.items ≡ suc (length after.work.items)
one_fewer k before after t = ap length t.work_is

pub one_run : (k : ℕ) (before mid after : Sessions) (old new ticks work : ℕ) → TakesFirst k before mid → after.work.items ≡ mid.work.items → new ≤ old + 1 → old + length before.work.items ≤ ticks + work → new + length after.work.items ≤ ticks + work
one_run k before mid after old new ticks work t e few l = let x = one_fewer k before mid t in let y = ap length e in omega (arith, x, y, few, l)
