use Rattle.std.proofs.Common.{arith, ap, inl, length, subst}
use Rattle.event_loop.proofs.Hearing.{none_moved, one_longer, fewer_by, one_kept, one_moved, fewer_timers, was_due, one_came, due_first, due_next}
use Rattle.event_loop.specs.Rows.{Has}
use Rattle.event_loop.proofs.all_sessions.Sessions.queue_due.Goals as goal

pub loop-number-init : goal.loop-number-init
loop-number-init c = record { moves = none_moved c.args.self.now; few = omega arith; alone = λ none. omega arith; came = λ s h. inl h; parts = due_first c.args.self.now }

pub loop-number-preserved : goal.loop-number-preserved
loop-number-preserved c =
    let i = c.loop-number.invariant.moves in
    record {
      moves = record {
        kept = λ s h. one_kept s c.in-Some.number c.loop-number.self.work.items c.push_back.new.self.items c.in_ok-push_back.ensures.items (i.kept s h);
        moved = λ s. one_moved s c.in-Some.number c.loop-number.self.work.items c.push_back.new.self.items c.args.self.now.timers.moments c.loop-number.self.timers.moments c.due.new.self.moments c.in-Some.ensures.taken.0 c.in_ok-push_back.ensures.items (i.moved s);
        same = (let r = i.same in record { table_same = r.table_same; same = (let q = r.same in record { door_same = q.door_same; pending_session_same = q.pending_session_same; clock_same = q.clock_same; made_same = q.made_same; scratch_same = q.scratch_same; admitted_same = q.admitted_same; bounds_same = q.bounds_same }); ready_same = r.ready_same });
      };
      few = (let l = c.loop-number.invariant.few in let m = one_longer c.loop-number.self.work.items c.push_back.new.self.items c.in-Some.number c.in_ok-push_back.ensures.items in let d = c.in-Some.ensures.due in let n = fewer_by c.loop-number.self.timers.moments c.due.new.self.moments c.in-Some.number d.0 c.in-Some.ensures.taken.0 d.2.is_set in omega (arith, l, m, n));
      alone = λ none. (let d = c.in-Some.ensures.due in was_due c.in-Some.number d.0 c.args.self.now c.loop-number.self d.1 d.2.is_set i none);
      came = (let d = c.in-Some.ensures.due in one_came c.in-Some.number d.0 c.args.self.now c.loop-number.self c.push_back.new.self.items d.1 d.2.is_set i c.in_ok-push_back.ensures.items c.loop-number.invariant.came);
      parts = (let d = c.in-Some.ensures.due in due_next c.in-Some.number d.0 c.args.self.now c.loop-number.self _ d.1 d.2.is_set i c.in_ok-push_back.ensures.items c.in-Some.ensures.taken.0 c.loop-number.invariant.parts);
    }

pub loop-number-smaller : goal.loop-number-smaller
loop-number-smaller c = let d = c.in-Some.ensures.due in rw c.in-Some.ensures.taken.0 (fewer_timers c.loop-number.self.timers.moments c.in-Some.number d.0 d.2.is_set)

pub returns-in_err-push_back-clause-few : goal.returns-in_err-push_back-clause-few
returns-in_err-push_back-clause-few c =
    let l = c.loop-number.invariant.few in
    let d = c.in-Some.ensures.due in
    let n = fewer_by c.loop-number.self.timers.moments c.due.new.self.moments c.in-Some.number d.0 c.in-Some.ensures.taken.0 d.2.is_set in
    let e = ap length c.in_err-push_back.ensures.items in
    omega (arith, l, n, e)

pub returns-in_err-push_back-clause-alone : goal.returns-in_err-push_back-clause-alone
returns-in_err-push_back-clause-alone c = λ none. (let d = c.in-Some.ensures.due in was_due c.in-Some.number d.0 c.args.self.now c.loop-number.self d.1 d.2.is_set c.loop-number.invariant.moves none)

pub returns-in_err-push_back-clause-came : goal.returns-in_err-push_back-clause-came
returns-in_err-push_back-clause-came c = λ s h. c.loop-number.invariant.came s (subst (Has s) c.in_err-push_back.ensures.items h)
