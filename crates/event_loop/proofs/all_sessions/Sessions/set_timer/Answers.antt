use Rattle.std.proofs.Common.{refl, ap, ℕ, ◌∙◌}
use Rattle.std.specs.Ordering.{nat_cmp}
use Rattle.std.specs.FinMap.{FinMap, get}
use Rattle.timer_set.proofs.Told.{got_inserted, got_beside, got_removed, got_left}
use Rattle.event_loop.proofs.all_sessions.Sessions.set_timer.Goals as goal

pub returns-in_ok-reserve-in-Some-clause-set : goal.returns-in_ok-reserve-in-Some-clause-set
returns-in_ok-reserve-in-Some-clause-set c = rw (c.set.ensures.moments, c.in-Some.is) (got_inserted c.reserve.new.self.moments c.args.number c.in-Some.at c.args.number refl)

pub returns-in_ok-reserve-in-Some-clause-kept : goal.returns-in_ok-reserve-in-Some-clause-kept
returns-in_ok-reserve-in-Some-clause-kept c = record {
  others = λ s apart. rw c.set.ensures.moments (got_beside c.reserve.new.self.moments c.args.number c.in-Some.at s apart ∙ ap (λ (m : FinMap nat_cmp ℕ). get m s) c.reserve.ensures.moments);
  table_same = refl;
  work_same = refl;
  same = record { door_same = refl; pending_session_same = refl; clock_same = refl; made_same = refl; scratch_same = refl; admitted_same = refl; bounds_same = (refl, refl) };
}

pub returns-in-None-clause-set : goal.returns-in-None-clause-set
returns-in-None-clause-set c = rw (c.clear.ensures.moments, c.in-None.is) (got_removed c.args.self.now.timers.moments c.args.number c.args.number refl)

pub returns-in-None-clause-kept : goal.returns-in-None-clause-kept
returns-in-None-clause-kept c = record {
  others = λ s apart. rw c.clear.ensures.moments (got_left c.args.self.now.timers.moments c.args.number s apart);
  table_same = refl;
  work_same = refl;
  same = record { door_same = refl; pending_session_same = refl; clock_same = refl; made_same = refl; scratch_same = refl; admitted_same = refl; bounds_same = (refl, refl) };
}
