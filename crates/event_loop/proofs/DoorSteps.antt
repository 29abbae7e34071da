-- What the acts of the program door make of the course of all.
use Rattle.std.proofs.Common.{◌≡◌, refl, sym, ap, subst, ◌∙◌, ℕ, zero, suc, ◌<◌, ◌≤◌, ◌⊎◌, inl, inr, Bool, true, false, nat_lt, List, [], ◌∷◌, Option, Some, None, is_some, arith}
use Rattle.std.specs.Prelude.{vec_len}
use Rattle.std.proofs.lemmas.Bool.{cases_lt, true≢false, and_right, and_from, lt-ltb, leb-false}
use Rattle.relay_model.specs.declared.commands.Config.{Config}
use Rattle.relay_model.specs.declared.places.Place.{Place}
use Rattle.relay_model.specs.declared.acts.Peer.{Peer}
use Rattle.relay_model.specs.declared.acts.Act.{Act}
use Rattle.relay_model.specs.declared.acts.Act.TheVariants as acts
use Rattle.relay_model.specs.declared.acts.Why.{Why}
use Rattle.relay_model.specs.declared.acts.Why.TheVariants as whys
use Rattle.relay_model.specs.Choices.{only_if, first_some, one_more, count}
use Rattle.relay_model.specs.Configs.{has_fork, single, program_door}
use Rattle.relay_model.specs.History.{memory_said, stop_said, accept_failed}
use Rattle.relay_model.specs.Journals.{Asking}
use Rattle.relay_model.specs.Rest.{owed}
use Rattle.relay_model.specs.Sessions.{admitted, holds, live, live_count, numbers, next_place, permits, door_options}
use Rattle.relay_model.specs.Calls.{door_call}
use Rattle.relay_model.specs.declared.calls.Call.TheVariants.{Accept}
use Rattle.relay_model.specs.Laws.{DoorTells}
use Rattle.relay_model.specs.Frames.{IsForeign, is_common}
use Rattle.relay_laws.proofs.Admissions.{door_says}
use Rattle.relay_session.specs.declared.sessions.Session.{Session}
use Rattle.relay_session.specs.declared.sessions.PendingSession.{PendingSession}
use Rattle.relay_session.specs.Sessions.{Hears, IsPendingSession}
use Rattle.relay_session.specs.States.{home}
use Rattle.relay_session.specs.Births.{BeginsSession}
use Rattle.program_door.specs.declared.doors.Door.{Door}
use Rattle.program_door.specs.Stands.{DoorStands}
use Rattle.program_door.specs.declared.wishes.DoorWish.TheVariants as wishes
use Rattle.program_door.specs.Steps.{steps_of}
use Rattle.program_door.specs.Wishes.{Wished}
use Rattle.program_door.proofs.Moves.{numbers_are, admitted_more}
use Rattle.fork_table.specs.Tables.{Table, row_of, live_in, may_accept_in}
use Rattle.relay_laws.proofs.Slept.{passes, begun_step, session_alike}
use Rattle.session_laws.proofs.Beginnings.{next}
use Rattle.world_trait.specs.Seen.{Seen}
use Rattle.session_laws.specs.SessionSets.{Waker}
use Rattle.session_laws.proofs.Members.{through_acts, awake, accept_ends}
use Rattle.session_loop.specs.Pauses.{ends_all}
use Rattle.session_loop.specs.Runs.{Run}
use Rattle.session_driver.proofs.Counting.{unread_owes}
use Rattle.session_loop.proofs.DrainGoing.{AllCommands, acted_run, idle_run}
use Rattle.session_driver.specs.DoorSteps.{DoorFor, DoorMeets, DoorActs, DoorAsking, DoorIdles, EndsNone, AdmitsNone, Admits}
use Rattle.event_loop.specs.declared.all_sessions.Sessions.{Sessions}
use Rattle.event_loop.specs.declared.all_sessions.Row.{Row}
use Rattle.event_loop.specs.Rows.{RowIs, UpRow}
use Rattle.event_loop.specs.Courses.{RowOf, NextIs, CountsSessions, Unsaid, Frame, SessionsCourse, CourseAt, SessionsSomewhere, SomewhereAt, SessionsOnward, Keeps, NoWork, SameLists, timer_of}
use Rattle.event_loop.specs.Endings.{MayLeave, MayLeaveRow, MayEnd, RunsOut, RowRuns, FailedAt, Failed, SomeFailed, EndsRows, MayEndAfter}
use Rattle.event_loop.specs.declared.asked.DoorAsked.{DoorAsked}
use Rattle.event_loop.specs.declared.asked.DoorAsked.TheVariants as asks
use Rattle.event_loop.specs.Asking.{BornAs, OneMore, SameButNext, AskedIs, GoesOn}
use Rattle.event_loop.proofs.Others.{unsaid_kept, moment_kept, turns_kept}
use Rattle.event_loop.proofs.Counting.{counted_kept, counted_by, counted_first}
use Rattle.event_loop.proofs.RowLaws.{wakes_kept, awake_wakes, sleeper_wakes, row_up, row_listed, same_timer}
use Rattle.event_loop.proofs.RowRuns.{here_of, next_kept, ran_course, ran_ends}
use Rattle.event_loop.proofs.Spreading.{up_may}
use Rattle.event_loop.proofs.Rooms.{kept_room}

-- ---- how many live

count_same : (one other : ℕ → Bool) (k : ℕ) → ((s : ℕ) → s < k → one s ≡ other s) → count one k ≡ count other k
count_same one other zero h = refl
count_same one other (suc k) h = let x = h k (omega arith) in let y = count_same one other k (λ s b. h s (omega (arith, b))) in λ i. one_more (x i) (y i)

row_lives : (c : Config) (n : ℕ) (past : List Act) (s : ℕ) (timer : Option ℕ) (row : Option Row) → has_fork c ≡ true → s < admitted c past → UpRow c n past s timer row → is_some row ≡ live c past s
row_lives c n past s timer None fork b r = let h = r.0 b in rw fork (sym (and_right (nat_lt s (admitted c past)) (holds c past s) h))
row_lives c n past s timer (Some row) fork b r = sym r.lives

pub live_is : (c : Config) (n : ℕ) (start now : Seen) (past : List Act) (sessions : Sessions) → SessionsCourse c n start now past sessions → live_in sessions.table ≡ live_count c past
live_is c n start now past sessions on =
    let e = on.frame.counts.admitted_is in
    ap (count (λ s. is_some (row_of sessions.table s))) e
    ∙ count_same (λ s. is_some (row_of sessions.table s)) (live c past) (admitted c past) (λ s b. row_lives c n past s (timer_of sessions s) (row_of sessions.table s) on.frame.fork b (row_up c n past s sessions.work.items (timer_of sessions s) (row_of sessions.table s) (on.rows s)))

pub door_for : (c : Config) (n : ℕ) (start now : Seen) (past : List Act) (sessions : Sessions) (live : ℕ) → live ≡ live_in sessions.table → SessionsCourse c n start now past sessions → DoorFor c n past sessions.clock live sessions.door
door_for c n start now past sessions live e on = record { legal = on.frame.run.legal; stands = on.frame.door; at_is = on.frame.clock_is; live_is = e ∙ live_is c n start now past sessions on }

pub door_meets : (c : Config) (now : Seen) (sessions : Sessions) (live : ℕ) → live ≡ live_in sessions.table → SessionsSomewhere c now sessions → DoorMeets c now sessions.clock live sessions.door
door_meets c now sessions live e at = record { n = at.n; past = at.past; meets = door_for c at.n at.start now at.past sessions live e at.course; holds = at.course.frame.run.holds }

-- ---- acts of the door

commands_of : (c : Config) (asked : Option Asking) → DoorAsking c asked → AllCommands c asked
commands_of c None own = tt
commands_of c (Some asking) own = (inr own.0, own.1 ∙ ap (single c) (sym own.0))

-- what ended the door's calls, where nothing has said a stop or want of memory
failed_alone : (m t a : Bool) (why : Why) → m ≡ false → t ≡ false → first_some (only_if m whys.Memory ∷ only_if t whys.Stopped ∷ only_if a whys.AcceptFailed ∷ []) ≡ Some why → why ≡ whys.AcceptFailed
failed_alone true t a why e f k = absurd (true≢false e)
failed_alone false true a why e f k = absurd (true≢false f)
failed_alone false false true why e f k = let x : whys.AcceptFailed ≡ why = cc in sym x
failed_alone false false false why e f k = let x : ⊥ = cc in absurd x

uncommon : (c : Config) (past : List Act) (act : Act) → Unsaid past → EndsNone c past act → is_common c act ≡ false
uncommon c past act u (inl k) = k
uncommon c past act u (inr k) =
    let w = failed_alone (memory_said past) (stop_said past) (accept_failed past program_door) k.1 u.remembered u.unstopped k.3 in
    subst (λ (a : Act). is_common c a ≡ false) (sym (k.2 ∙ ap (acts.Closed k.0) w)) refl

row_on : (c : Config) (n : ℕ) (act : Act) (past : List Act) (s : ℕ) (work : List ℕ) (timer : Option ℕ) (row : Option Row) → has_fork c ≡ true → (s < admitted c past → IsForeign c s act) → is_common c act ≡ false → (s < admitted c (act ∷ past) → s < admitted c past) → RowIs c n past s work timer row → RowIs c n (act ∷ past) s work timer row
row_on c n act past s work timer None fork f k back r = (
  λ below.
      let b = back below in
      let e = numbers_are c past fork in
      let m : s < numbers c past = omega (arith, b, e) in
      (session_alike c s (act ∷ past) past (begun_step c act past s m) m (passes c s act past (f b) k)).holds_same ∙ r.0 b,
  r.1,
)
row_on c n act past s work timer (Some row) fork f k back (inl r) =
    let g = r.1.begun in
    let e = numbers_are c past fork in
    inl (r.0, wakes_kept c n act past s row (f (omega (arith, g, e))) k r.1)
row_on c n act past s work timer (Some row) fork f k back (inr o) =
    let g = (sleeper_wakes c n past s timer row o.0 o.1).begun in
    let e = numbers_are c past fork in
    let away = f (omega (arith, g, e)) in
    inr (through_acts c n act past s timer row.turn row.member.session away k o.0, counted_kept c act past s row.member.dumper away o.1)

run_on : (c : Config) (n : ℕ) (start old new : Seen) (past : List Act) (For : ℕ → List Act → Type 0) (before after : Sessions) (act : Act) → Frame c n start old past before → owed c past ≡ None → For n past → DoorActs c For old new before.door after.door act → Run c n start new (act ∷ past)
run_on c n start old new past For before after act f unowed for a =
    acted_run c n start old new past act a.asked a.failed f.run a.did (commands_of c a.asked a.own) ((a.heard n past for).may unowed) a.untimed a.no_turn a.rose (λ e. a.blameless e past) a.waitless

-- all of the loop but the door is as it was, with the next session put back
pub record KeptBack (c : Config) (before after : Sessions) : Type 0 where
  pub clock_same : after.clock ≡ before.clock
  pub made_same : after.made ≡ before.made
  pub scratch_same : vec_len after.scratch ≡ vec_len before.scratch
  pub table_same : after.table ≡ before.table
  pub lists : SameLists before after
  pub next : (past : List Act) → before.table.admitted ≡ admitted c past → NextIs c past after.pending_session

pub door_course : (c : Config) (n : ℕ) (start old new : Seen) (past : List Act) (live : ℕ) (before after : Sessions) (act : Act) → live ≡ live_in before.table → SessionsCourse c n start old past before → DoorActs c (λ m p. DoorFor c m p before.clock live before.door) old new before.door after.door act → ((m : ℕ) (p : List Act) → DoorFor c m p before.clock live before.door → AdmitsNone c p act) → KeptBack c before after → SessionsCourse c n start new (act ∷ past) after
door_course c n start old new past live before after act e on a none kept =
    let f = on.frame in
    let for = door_for c n start old past before live e on in
    let h = a.heard n past for in
    let z = none n past for in
    let k = uncommon c past act f.unsaid z.ends_none in
    let same = z.admitted_same in
    let table = kept.table_same in
    record {
      frame = record {
        fork = f.fork;
        run = run_on c n start old new past (λ m p. DoorFor c m p before.clock live before.door) before after act f on.unowed for a;
        door = h.stands;
        counts = subst (CountsSessions c (act ∷ past)) (sym table) (record { admitted_is = f.counts.admitted_is ∙ sym same; children_is = f.counts.children_is; stop_is = f.counts.stop_is });
        next = kept.next (act ∷ past) (f.counts.admitted_is ∙ sym same);
        clock_is = kept.clock_same ∙ f.clock_is ∙ sym (moment_kept act past a.untimed);
        made_is = turns_kept act past a.untimed ∙ f.made_is ∙ sym kept.made_same;
        room = kept_room _ _ _ f.room kept.scratch_same;
        unsaid = unsaid_kept c act past k f.unsaid;
      };
      unowed = unread_owes c act past a.unread;
      rows = λ s. row_listed c n (act ∷ past) s before after (ap (λ (t : Table Row). row_of t s) table) kept.lists (row_on c n act past s before.work.items (timer_of before s) (row_of before.table s) f.fork (a.apart n past for s) k (λ b. omega (arith, b, same)) (on.rows s));
    }

pub door_acted : (c : Config) (n : ℕ) (start old new : Seen) (past : List Act) (live : ℕ) (before after : Sessions) (act : Act) → live ≡ live_in before.table → SessionsCourse c n start old past before → DoorActs c (λ m p. DoorFor c m p before.clock live before.door) old new before.door after.door act → ((m : ℕ) (p : List Act) → DoorFor c m p before.clock live before.door → AdmitsNone c p act) → KeptBack c before after → SessionsOnward c n start new after
door_acted c n start old new past live before after act e on a none kept = record { past = act ∷ past; course = door_course c n start old new past live before after act e on a none kept }

pub steps_fewer : (c : Config) (old new : Seen) (live : ℕ) (before after : Sessions) (act : Act) → live ≡ live_in before.table → SessionsSomewhere c old before → DoorActs c (λ m p. DoorFor c m p before.clock live before.door) old new before.door after.door act → steps_of after.door < steps_of before.door
steps_fewer c old new live before after act e at a = (a.heard at.n at.past (door_for c at.n at.start old at.past before live e at.course)).fewer

-- nothing was done
pub door_idled : (c : Config) (n : ℕ) (start old new : Seen) (past : List Act) (before after : Sessions) → SessionsCourse c n start old past before → DoorIdles old new before.door after.door → KeptBack c before after → SessionsCourse c n start new past after
door_idled c n start old new past before after on d kept =
    let f = on.frame in
    let table = kept.table_same in
    record {
      frame = record {
        fork = f.fork;
        run = idle_run c n start old new past f.run d.did d.rose d.waitless;
        door = subst (DoorStands c past) (sym d.same) f.door;
        counts = subst (CountsSessions c past) (sym table) f.counts;
        next = kept.next past f.counts.admitted_is;
        clock_is = kept.clock_same ∙ f.clock_is;
        made_is = f.made_is ∙ sym kept.made_same;
        room = kept_room _ _ _ f.room kept.scratch_same;
        unsaid = f.unsaid;
      };
      unowed = on.unowed;
      rows = λ s. row_listed c n past s before after (ap (λ (t : Table Row). row_of t s) table) kept.lists (on.rows s);
    }

pub door_unmoved : (c : Config) (n : ℕ) (start old new : Seen) (past : List Act) (before after : Sessions) → SessionsCourse c n start old past before → new ≡ old → after.door ≡ before.door → KeptBack c before after → SessionsCourse c n start new past after
door_unmoved c n start old new past before after on e d kept =
    let f = on.frame in
    let table = kept.table_same in
    record {
      frame = record {
        fork = f.fork;
        run = subst (λ (x : Seen). Run c n start x past) (sym e) f.run;
        door = subst (DoorStands c past) (sym d) f.door;
        counts = subst (CountsSessions c past) (sym table) f.counts;
        next = kept.next past f.counts.admitted_is;
        clock_is = kept.clock_same ∙ f.clock_is;
        made_is = f.made_is ∙ sym kept.made_same;
        room = kept_room _ _ _ f.room kept.scratch_same;
        unsaid = f.unsaid;
      };
      unowed = on.unowed;
      rows = λ s. row_listed c n past s before after (ap (λ (t : Table Row). row_of t s) table) kept.lists (on.rows s);
    }

pub idle_as : (before after : Sessions) → SameLists before after → NoWork before → NoWork after
idle_as before after e h = e.work_same ∙ h

-- ---- the next session stands

pub course_but_next : (c : Config) (n : ℕ) (start now : Seen) (past : List Act) (before after : Sessions) → SessionsCourse c n start now past before → SameButNext c before after → SessionsCourse c n start now past after
course_but_next c n start now past before after on same =
    let f = on.frame in
    record {
      frame = record {
        fork = f.fork;
        run = f.run;
        door = subst (DoorStands c past) (sym same.door_same) f.door;
        counts = record { admitted_is = same.admitted_same ∙ f.counts.admitted_is; children_is = same.bounds_same.0 ∙ f.counts.children_is; stop_is = same.bounds_same.1 ∙ f.counts.stop_is };
        next = same.next past f.counts.admitted_is f.next;
        clock_is = same.clock_same ∙ f.clock_is;
        made_is = f.made_is ∙ sym same.made_same;
        room = kept_room _ _ _ f.room same.scratch_same;
        unsaid = f.unsaid;
      };
      unowed = on.unowed;
      rows = λ s. row_listed c n past s before after (same.rows_same s) same.lists (on.rows s);
    }

pub idle_but_next : (c : Config) (before after : Sessions) → SameButNext c before after → NoWork before → NoWork after
idle_but_next c before after same h = idle_as before after same.lists h

-- ---- the run may be ended

pub course_may_end_after : (c : Config) (n : ℕ) (start now : Seen) (past : List Act) (why : Why) (sessions : Sessions) → ends_all why ≡ true → RunsOut c n past why → SessionsCourse c n start now past sessions → MayEndAfter c n start now why sessions past
course_may_end_after c n start now past why sessions all ends on = (
  record {
    past = past;
    frame = on.frame;
    all = all;
    ends = ends;
    owes = inl on.unowed;
    rows = λ s. up_may c n past s why (timer_of sessions s) (row_of sessions.table s) ends (row_up c n past s sessions.work.items (timer_of sessions s) (row_of sessions.table s) (on.rows s));
  },
  refl,
)

pub memory_rows : (c : Config) (n : ℕ) (start now : Seen) (past : List Act) (sessions : Sessions) → SessionsCourse c n start now past sessions → (s : ℕ) → MayLeaveRow c n past s whys.Memory (row_of sessions.table s)
memory_rows c n start now past sessions on s = up_may c n past s whys.Memory (timer_of sessions s) (row_of sessions.table s) (inl refl) (row_up c n past s sessions.work.items (timer_of sessions s) (row_of sessions.table s) (on.rows s))

pub memory_ends_after : (c : Config) (n : ℕ) (start now : Seen) (past : List Act) (sessions : Sessions) → SessionsCourse c n start now past sessions → MayEndAfter c n start now whys.Memory sessions past
memory_ends_after c n start now past sessions on = course_may_end_after c n start now past whys.Memory sessions refl (inl refl) on

pub memory_ends : (c : Config) (n : ℕ) (start now : Seen) (past : List Act) (sessions : Sessions) → SessionsCourse c n start now past sessions → MayEnd c n start now whys.Memory sessions
memory_ends c n start now past sessions on = (memory_ends_after c n start now past sessions on).0

-- ---- a peer of the next session

pub may_accept : (c : Config) (n : ℕ) (start now : Seen) (past : List Act) (sessions : Sessions) → SessionsCourse c n start now past sessions → door_call c past ≡ Accept program_door (next_place c past) → may_accept_in sessions.table ≡ true
may_accept c n start now past sessions on called =
    let t = subst (DoorTells c past) called (door_says c past) in
    let e = on.frame.counts.admitted_is in
    let l = live_is c n start now past sessions on in
    let x = leb-false (door_options c).sessions.stop_after (admitted c past) t.2 in
    let y = leb-false (door_options c).sessions.max_children (live_count c past) t.3 in
    let m = on.frame.counts.children_is in
    let o = on.frame.counts.stop_is in
    and_from (nat_lt (live_in sessions.table) sessions.table.max_children) (nat_lt sessions.table.admitted sessions.table.stop_after) (lt-ltb (live_in sessions.table) sessions.table.max_children (omega (arith, y, l, m))) (lt-ltb sessions.table.admitted sessions.table.stop_after (omega (arith, x, e, o)))

no_next : (c : Config) (past : List Act) (pending_session : Option PendingSession) → pending_session ≡ None → NextIs c past pending_session
no_next c past pending_session e = subst (NextIs c past) (sym e) tt

pub door_admitted : (c : Config) (n : ℕ) (start old new : Seen) (past : List Act) (live : ℕ) (before after : Sessions) (place : Place) (peer : Peer) (row : Row) → live ≡ live_in before.table → SessionsCourse c n start old past before → DoorActs c (λ m p. DoorFor c m p before.clock live before.door) old new before.door after.door (acts.Accepted place peer) → ((m : ℕ) (p : List Act) → DoorFor c m p before.clock live before.door → Admits c p place peer) →
    (BeginsSession c n past (admitted c past) peer → Hears c n (acts.Accepted (home c (admitted c past)) peer ∷ past) (admitted c past) row.member.session) → OneMore row before after → CourseAt c n start new (acts.Accepted place peer ∷ past) before.table.admitted after
door_admitted c n start old new past live before after place peer row e on a admits hears more =
    let f = on.frame in
    let for = door_for c n start old past before live e on in
    let h = a.heard n past for in
    let z = admits n past for in
    let at = z.place_is in
    let permitted : permits c (next_place c past) peer ≡ true = subst (λ (p : Place). permits c p peer ≡ true) at z.permitted in
    let began = hears (next c n past peer f.fork f.run.legal f.run.named z.called permitted) in
    let w : Waker c n (acts.Accepted place peer ∷ past) (admitted c past) row.member.session = awake c n (acts.Accepted place peer ∷ past) (admitted c past) row.member.session (subst (λ (p : Place). Hears c n (acts.Accepted p peer ∷ past) (admitted c past) row.member.session) (sym at) began) in
    let grown : admitted c (acts.Accepted place peer ∷ past) ≡ suc (admitted c past) = subst (λ (p : Place). admitted c (acts.Accepted p peer ∷ past) ≡ suc (admitted c past)) (sym at) (admitted_more c past peer (and_from (has_fork c) (permits c (next_place c past) peer) f.fork permitted)) in
    let was = f.counts.admitted_is in
    let is = more.admitted_is in
    record {
      frame = record {
        fork = f.fork;
        run = run_on c n start old new past (λ m p. DoorFor c m p before.clock live before.door) before after (acts.Accepted place peer) f on.unowed for a;
        door = h.stands;
        counts = record { admitted_is = omega (arith, was, is, grown); children_is = more.bounds_same.0 ∙ f.counts.children_is; stop_is = more.bounds_same.1 ∙ f.counts.stop_is };
        next = no_next c (acts.Accepted place peer ∷ past) after.pending_session more.pending_session_is;
        clock_is = more.clock_same ∙ f.clock_is;
        made_is = f.made_is ∙ sym more.made_same;
        room = kept_room _ _ _ f.room more.scratch_same;
        unsaid = record { remembered = f.unsaid.remembered; unstopped = f.unsaid.unstopped };
      };
      unowed = refl;
      rows = λ s apart. each s grown was for apart;
      here = subst (UpRow c n (acts.Accepted place peer ∷ past) before.table.admitted (timer_of after before.table.admitted)) (sym more.row)
          (awake_wakes c n (acts.Accepted place peer ∷ past) before.table.admitted row (subst (λ (x : ℕ). Waker c n (acts.Accepted place peer ∷ past) x row.member.session) (sym was) w) (more.heard ∙ sym f.made_is)
          (counted_first c n past (acts.Accepted place peer) before.table.admitted row.member.dumper f.fork f.run.legal was refl more.unread));
    }
  where
    each : (s : ℕ) → admitted c (acts.Accepted place peer ∷ past) ≡ suc (admitted c past) → before.table.admitted ≡ admitted c past → DoorFor c n past before.clock live before.door → (s ≡ before.table.admitted → ⊥) → RowOf c n (acts.Accepted place peer ∷ past) after s
    each s grown was for apart =
        row_listed c n (acts.Accepted place peer ∷ past) s before after (more.others s apart) more.lists
        (row_on c n (acts.Accepted place peer) past s before.work.items (timer_of before s) (row_of before.table s) on.frame.fork (a.apart n past for s) refl (λ b. nearer (cases_lt s (admitted c past)) b) (on.rows s))
      where
        nearer : (s < admitted c past) ⊎ (admitted c past ≤ s) → s < admitted c (acts.Accepted place peer ∷ past) → s < admitted c past
        nearer (inl h) b = h
        nearer (inr h) b = absurd (apart (omega (arith, h, b, grown, was)))

-- ---- a failed accepting

waker_fails : (c : Config) (n : ℕ) (past : List Act) (s : ℕ) (x : Session) → has_fork c ≡ true → Unsaid past → Waker c n past s x → MayLeave c n (acts.AcceptFailed program_door ∷ past) s whys.AcceptFailed x
waker_fails c n past s x fork u w = let e = accept_ends c n past s x fork u.remembered u.unstopped w in record { grounded = e.0; ends = inl e.1; unclosed = e.2 }

row_fails : (c : Config) (n : ℕ) (past : List Act) (s : ℕ) (timer : Option ℕ) (row : Option Row) → has_fork c ≡ true → Unsaid past → UpRow c n past s timer row → FailedAt c n (acts.AcceptFailed program_door ∷ past) s timer row
row_fails c n past s timer None fork u r = r
row_fails c n past s timer (Some row) fork u r = record {
  may = record {
    current = λ h. waker_fails c n past s row.member.session fork u (r.current h);
    late = λ h new w. waker_fails c n past s new fork u (r.late h new w);
  };
  begun = r.begun;
  lives = r.lives;
  counted = counted_by c (acts.AcceptFailed program_door) past s row.member.dumper row.member.dumper refl refl r.counted;
}

pub door_failed : (c : Config) (n : ℕ) (start old new : Seen) (past : List Act) (live : ℕ) (before mid : Sessions) → live ≡ live_in before.table → SessionsCourse c n start old past before → NoWork before → DoorActs c (λ m p. DoorFor c m p before.clock live before.door) old new before.door mid.door (acts.AcceptFailed program_door) → KeptBack c before mid → Failed c n start new past mid
door_failed c n start old new past live before mid e on idle a kept =
    let f = on.frame in
    let for = door_for c n start old past before live e on in
    let h = a.heard n past for in
    let table = kept.table_same in
    record {
      frame = record {
        fork = f.fork;
        run = run_on c n start old new past (λ m p. DoorFor c m p before.clock live before.door) before mid (acts.AcceptFailed program_door) f on.unowed for a;
        door = h.stands;
        counts = subst (CountsSessions c (acts.AcceptFailed program_door ∷ past)) (sym table) (record { admitted_is = f.counts.admitted_is; children_is = f.counts.children_is; stop_is = f.counts.stop_is });
        next = kept.next (acts.AcceptFailed program_door ∷ past) f.counts.admitted_is;
        clock_is = kept.clock_same ∙ f.clock_is;
        made_is = f.made_is ∙ sym kept.made_same;
        room = kept_room _ _ _ f.room kept.scratch_same;
        unsaid = record { remembered = f.unsaid.remembered; unstopped = f.unsaid.unstopped };
      };
      rows = λ s.
          subst (λ (k : Option ℕ). FailedAt c n (acts.AcceptFailed program_door ∷ past) s k (row_of mid.table s)) (sym (same_timer s before mid kept.lists.timers_same))
          (subst (λ (t : Table Row). FailedAt c n (acts.AcceptFailed program_door ∷ past) s (timer_of before s) (row_of t s)) (sym table)
          (row_fails c n past s (timer_of before s) (row_of before.table s) f.fork f.unsaid (row_up c n past s before.work.items (timer_of before s) (row_of before.table s) (on.rows s))));
      idle = kept.lists.work_same ∙ idle;
    }

-- ---- steps of a door that stayed as it was

pub fewer_kept : (one two three : Sessions) → steps_of two.door < steps_of one.door → three.door ≡ two.door → steps_of three.door < steps_of one.door
fewer_kept one two three h e = let x = ap steps_of e in omega (arith, h, x)

-- ---- before the next session stood

pub some_next : (c : Config) (now : Seen) (before after : Sessions) → SessionsSomewhere c now before → SameButNext c before after → SessionsSomewhere c now after
some_next c now before after at same = record { n = at.n; start = at.start; past = at.past; course = course_but_next c at.n at.start now at.past before after at.course same }

pub asked_before : (c : Config) (old new : Seen) (before mid after : Sessions) (result : Option DoorAsked) → SameButNext c before mid → GoesOn c old new mid after result → GoesOn c old new before after result
asked_before c old new before mid after None same r = (λ n start past on. r.0 n start past (course_but_next c n start old past before mid on same), r.1, fewer_before before mid after r.2 same.door_same, r.3 ∙ same.made_same)
  where
    fewer_before : (one two three : Sessions) → steps_of three.door < steps_of two.door → two.door ≡ one.door → steps_of three.door < steps_of one.door
    fewer_before one two three h e = let x = ap steps_of e in omega (arith, h, x)
asked_before c old new before mid after (Some (asks.Waits until)) same r = (λ n start past on. r.0 n start past (course_but_next c n start old past before mid on same), r.1, r.2 ∙ same.made_same)
asked_before c old new before mid after (Some asks.Over) same r = (λ n start past on. r.0 n start past (course_but_next c n start old past before mid on same), r.1, r.2 ∙ same.made_same)
asked_before c old new before mid after (Some (asks.Ends why)) same r = λ n start past on. r n start past (course_but_next c n start old past before mid on same)

-- the next session, where it is this one
pub next_is : (c : Config) (past : List Act) (next : Option PendingSession) (pending_session : PendingSession) → next ≡ Some pending_session → NextIs c past next → IsPendingSession c (admitted c past) pending_session
next_is c past next pending_session e h = subst (NextIs c past) e h

-- the session that stands ready is the next one, whatever history the table counts as
pub next_of : (c : Config) (now : Seen) (sessions : Sessions) → SessionsSomewhere c now sessions → (past : List Act) → sessions.table.admitted ≡ admitted c past → NextIs c past sessions.pending_session
next_of c now sessions at past e =
    let f = at.course.frame in
    next_kept c at.past past sessions.pending_session (sym e ∙ f.counts.admitted_is) f.next

-- what a door did stands of the door that was left so
pub acts_behind : (c : Config) (For : ℕ → List Act → Type 0) (old new : Seen) (before mid after : Door) (act : Act) → after ≡ mid → DoorActs c For old new before mid act → DoorActs c For old new before after act
acts_behind c For old new before mid after act e a = subst (λ (door : Door). DoorActs c For old new before door act) (sym e) a

-- a session is given after the door has moved on
pub given_behind : (door : Door) (born : Row) (before after : Sessions) (roomy : 256 ≤ before.ready.room) → OneMore born (record before { door = door; roomy = roomy }) after → OneMore born before after
given_behind door born before after roomy more = record { clock_same = more.clock_same; made_same = more.made_same; scratch_same = more.scratch_same; pending_session_is = more.pending_session_is; row = more.row; heard = more.heard; unread = more.unread; lists = record { work_same = more.lists.work_same; timers_same = more.lists.timers_same }; others = more.others; admitted_is = more.admitted_is; bounds_same = more.bounds_same }

pub asked_then : (c : Config) (old mid new : Seen) (one two three : Sessions) (asked : DoorAsked) → Keeps c old mid one two → two.made ≡ one.made → AskedIs c mid new two three asked → AskedIs c old new one three asked
asked_then c old mid new one two three (asks.Waits until) k m r = (λ n start past on. let o = k n start past on in r.0 n start o.past o.course, r.1, r.2 ∙ m)
asked_then c old mid new one two three asks.Over k m r = (λ n start past on. let o = k n start past on in r.0 n start o.past o.course, r.1, r.2 ∙ m)
asked_then c old mid new one two three (asks.Ends why) k m r = λ n start past on. let o = k n start past on in r n start o.past o.course

-- ---- each answer of the door, whole

pub goes_acted : (c : Config) (old new : Seen) (live : ℕ) (before after : Sessions) (act : Act) → live ≡ live_in before.table → SessionsSomewhere c old before → NoWork before → DoorActs c (λ m p. DoorFor c m p before.clock live before.door) old new before.door after.door act → ((m : ℕ) (p : List Act) → DoorFor c m p before.clock live before.door → AdmitsNone c p act) → KeptBack c before after → GoesOn c old new before after None
goes_acted c old new live before after act e at idle a none kept = (
  λ n start past on. door_acted c n start old new past live before after act e on a none kept,
  idle_as before after kept.lists idle,
  steps_fewer c old new live before after act e at a,
  kept.made_same,
)

pub goes_waiting : (c : Config) (old new : Seen) (live : ℕ) (before after : Sessions) (until : Option ℕ) → live ≡ live_in before.table → NoWork before → new ≡ old → after.door ≡ before.door → ((m : ℕ) (p : List Act) → DoorFor c m p before.clock live before.door → Wished c p (wishes.Sleep until)) → KeptBack c before after → AskedIs c old new before after (asks.Waits until)
goes_waiting c old new live before after until e idle same door wished kept = (
  λ n start past on. record { past = past; course = door_unmoved c n start old new past before after on same door kept; wished = wished n past (door_for c n start old past before live e on) },
  idle_as before after kept.lists idle,
  kept.made_same,
)

pub goes_over : (c : Config) (old new : Seen) (live : ℕ) (before after : Sessions) → live ≡ live_in before.table → NoWork before → new ≡ old → after.door ≡ before.door → ((m : ℕ) (p : List Act) → DoorFor c m p before.clock live before.door → Wished c p wishes.Done) → KeptBack c before after → AskedIs c old new before after asks.Over
goes_over c old new live before after e idle same door wished kept = (
  λ n start past on. record { past = past; course = door_unmoved c n start old new past before after on same door kept; wished = wished n past (door_for c n start old past before live e on) },
  idle_as before after kept.lists idle,
  kept.made_same,
)

-- what a session has heard is said of it in the table too
pub born_as : (c : Config) (n : ℕ) (past : List Act) (peer : Peer) (x y : Session) → y ≡ x → Hears c n (acts.Accepted (home c (admitted c past)) peer ∷ past) (admitted c past) x → Hears c n (acts.Accepted (home c (admitted c past)) peer ∷ past) (admitted c past) y
born_as c n past peer x y e h = subst (Hears c n (acts.Accepted (home c (admitted c past)) peer ∷ past) (admitted c past)) (sym e) h

pub born_on : (c : Config) (n : ℕ) (start old new : Seen) (past : List Act) (live number : ℕ) (before after : Sessions) (place : Place) (peer : Peer) (row : Row) → live ≡ live_in before.table → SessionsCourse c n start old past before → DoorActs c (λ m p. DoorFor c m p before.clock live before.door) old new before.door after.door (acts.Accepted place peer) → ((m : ℕ) (p : List Act) → DoorFor c m p before.clock live before.door → Admits c p place peer) → BornAs c before peer row.member.session → OneMore row before after → number ≡ before.table.admitted → CourseAt c n start new (acts.Accepted place peer ∷ past) number after
born_on c n start old new past live number before after place peer row e on a admits born more same =
    subst (λ (k : ℕ). CourseAt c n start new (acts.Accepted place peer ∷ past) k after) (sym same)
    (door_admitted c n start old new past live before after place peer row e on a admits (λ b. born n past b on.frame.counts.admitted_is on.frame.clock_is) more)

pub some_admitted : (c : Config) (old new : Seen) (live number : ℕ) (before after : Sessions) (place : Place) (peer : Peer) (row : Row) → live ≡ live_in before.table → SessionsSomewhere c old before → DoorActs c (λ m p. DoorFor c m p before.clock live before.door) old new before.door after.door (acts.Accepted place peer) → ((m : ℕ) (p : List Act) → DoorFor c m p before.clock live before.door → Admits c p place peer) → BornAs c before peer row.member.session → OneMore row before after → number ≡ before.table.admitted → SomewhereAt c new number after
some_admitted c old new live number before after place peer row e at a admits born more same = record { n = at.n; start = at.start; past = acts.Accepted place peer ∷ at.past; course = here_of c at.n at.start new (acts.Accepted place peer ∷ at.past) number after (born_on c at.n at.start old new at.past live number before after place peer row e at.course a admits born more same) }

pub goes_admitted : (c : Config) (old mid_seen new : Seen) (live number : ℕ) (before mid after : Sessions) (place : Place) (peer : Peer) (row : Row) → live ≡ live_in before.table → SessionsSomewhere c old before → NoWork before → DoorActs c (λ m p. DoorFor c m p before.clock live before.door) old mid_seen before.door mid.door (acts.Accepted place peer) → ((m : ℕ) (p : List Act) → DoorFor c m p before.clock live before.door → Admits c p place peer) → BornAs c before peer row.member.session → OneMore row before mid → number ≡ before.table.admitted → RowRuns c mid_seen new number mid after None → GoesOn c old new before after None
goes_admitted c old mid_seen new live number before mid after place peer row e at idle a admits born more same run = (
  λ n start past on.
      let at = born_on c n start old mid_seen past live number before mid place peer row e on a admits born more same in
      let r = run.0 n start (acts.Accepted place peer ∷ past) (here_of c n start mid_seen (acts.Accepted place peer ∷ past) number mid at) in
      record { past = r.since; course = ran_course c n start mid_seen new (acts.Accepted place peer ∷ past) number mid after at r run.1 },
  run.1.work_same ∙ (more.lists.work_same ∙ idle),
  fewer_kept before mid after (steps_fewer c old mid_seen live before mid (acts.Accepted place peer) e at a) run.2.door_same,
  run.2.made_same ∙ more.made_same,
)

pub ends_admitted : (c : Config) (old mid_seen new : Seen) (live number : ℕ) (why : Why) (before mid after : Sessions) (place : Place) (peer : Peer) (row : Row) → live ≡ live_in before.table → DoorActs c (λ m p. DoorFor c m p before.clock live before.door) old mid_seen before.door mid.door (acts.Accepted place peer) → ((m : ℕ) (p : List Act) → DoorFor c m p before.clock live before.door → Admits c p place peer) → BornAs c before peer row.member.session → OneMore row before mid → number ≡ before.table.admitted → RowRuns c mid_seen new number mid after (Some why) → AskedIs c old new before after (asks.Ends why)
ends_admitted c old mid_seen new live number why before mid after place peer row e a admits born more same run = λ n start past on.
    let at = born_on c n start old mid_seen past live number before mid place peer row e on a admits born more same in
    ran_ends c n start mid_seen new (acts.Accepted place peer ∷ past) number why mid after at (run.0 n start (acts.Accepted place peer ∷ past) (here_of c n start mid_seen (acts.Accepted place peer ∷ past) number mid at)) run.1

pub some_failed : (c : Config) (old new : Seen) (live : ℕ) (before mid : Sessions) → live ≡ live_in before.table → SessionsSomewhere c old before → NoWork before → DoorActs c (λ m p. DoorFor c m p before.clock live before.door) old new before.door mid.door (acts.AcceptFailed program_door) → KeptBack c before mid → SomeFailed c new mid
some_failed c old new live before mid e at idle a kept = record { n = at.n; start = at.start; past = at.past; failed = door_failed c at.n at.start old new at.past live before mid e at.course idle a kept }

pub goes_failed : (c : Config) (old mid_seen new : Seen) (live : ℕ) (before mid after : Sessions) → live ≡ live_in before.table → SessionsSomewhere c old before → NoWork before → DoorActs c (λ m p. DoorFor c m p before.clock live before.door) old mid_seen before.door mid.door (acts.AcceptFailed program_door) → KeptBack c before mid → EndsRows c mid_seen new mid after None → GoesOn c old new before after None
goes_failed c old mid_seen new live before mid after e at idle a kept run = (
  λ n start past on. run.0 n start past (door_failed c n start old mid_seen past live before mid e on idle a kept),
  run.1,
  fewer_kept before mid after (steps_fewer c old mid_seen live before mid (acts.AcceptFailed program_door) e at a) run.2.door_same,
  run.2.made_same ∙ kept.made_same,
)

pub ends_failed : (c : Config) (old mid_seen new : Seen) (live : ℕ) (why : Why) (before mid after : Sessions) → live ≡ live_in before.table → NoWork before → DoorActs c (λ m p. DoorFor c m p before.clock live before.door) old mid_seen before.door mid.door (acts.AcceptFailed program_door) → KeptBack c before mid → EndsRows c mid_seen new mid after (Some why) → AskedIs c old new before after (asks.Ends why)
ends_failed c old mid_seen new live why before mid after e idle a kept run = λ n start past on. run n start past (door_failed c n start old mid_seen past live before mid e on idle a kept)
