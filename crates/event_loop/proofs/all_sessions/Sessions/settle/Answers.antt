use Rattle.std.proofs.Common.{refl}
use Rattle.timer_set.proofs.Told.{got_removed, got_left}
use Rattle.event_loop.proofs.all_sessions.Sessions.settle.Goals as goal

pub returns-in-Ok : goal.returns-in-Ok
returns-in-Ok c = rw c.in-Sleep.is (c.set_timer.ensures.kept, c.in-Ok.ensures.set)

pub returns-in-Err : goal.returns-in-Err
returns-in-Err c = rw c.in-Sleep.is (c.set_timer.ensures.kept, refl)

pub returns-in-Done : goal.returns-in-Done
returns-in-Done c = rw c.in-Done.is (record {
  gone = c.retire.ensures.row;
  timer_gone = rw c.clear.ensures.moments (got_removed c.args.self.now.timers.moments c.args.number c.args.number refl);
  rows = c.retire.ensures.others;
  timers = λ s apart. rw c.clear.ensures.moments (got_left c.args.self.now.timers.moments c.args.number s apart);
  work_same = refl;
  same = record { door_same = refl; pending_session_same = refl; clock_same = refl; made_same = refl; scratch_same = refl; admitted_same = c.retire.ensures.admitted; bounds_same = c.retire.ensures.bounds };
})

pub returns-in-Spreads : goal.returns-in-Spreads
returns-in-Spreads c = rw c.in-Spreads.is (refl, refl)
