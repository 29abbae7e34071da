use Rattle.std.proofs.Common.{refl, sym}
use Rattle.relay_model.specs.Sessions.{admitted}
use Rattle.event_loop.proofs.DoorSteps.{born_as, next_is}
use Rattle.event_loop.proofs.all_sessions.Sessions.admit.Goals as goal

pub returns-clause-gives : goal.returns-clause-gives
returns-clause-gives c = record {
  born = _;
  more = record { clock_same = refl; made_same = refl; scratch_same = refl; pending_session_is = c.in-Some.ensures.after; row = c.admit.ensures.row; heard = refl; unread = c.new.ensures.unread; lists = record { work_same = refl; timers_same = refl }; others = c.admit.ensures.others; admitted_is = c.admit.ensures.admitted; bounds_same = c.admit.ensures.bounds };
  begun = λ config next n past b e clock. born_as config n past c.args.peer _ _ c.new.ensures.session (c.accepted-session.ensures.hears config n past (admitted config past) (next_is config past _ c.in-Some.pending_session (sym c.in-Some.ensures.value) (next past e)) b clock);
}
