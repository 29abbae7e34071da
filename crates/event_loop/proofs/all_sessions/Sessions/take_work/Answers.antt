use Rattle.std.proofs.Common.{refl, sym, ◌∙◌}
use Rattle.event_loop.proofs.Lists.{nil_of}
use Rattle.event_loop.proofs.all_sessions.Sessions.take_work.Goals as goal

pub returns-in-Some : goal.returns-in-Some
returns-in-Some c = record { work_is = c.in-Some.ensures.items; table_same = refl; timers_same = refl; same = record { door_same = refl; pending_session_same = refl; clock_same = refl; made_same = refl; scratch_same = refl; admitted_same = refl; bounds_same = (refl, refl) } }

pub returns-in-None : goal.returns-in-None
returns-in-None c = record {
  idle = nil_of c.pop_front.new.self.items (sym c.pop_front.new.self.ok.0 ∙ c.in-None.ensures.cases.1);
  table_same = refl;
  lists = record { work_same = sym c.in-None.ensures.items; timers_same = refl };
  same = record { door_same = refl; pending_session_same = refl; clock_same = refl; made_same = refl; scratch_same = refl; admitted_same = refl; bounds_same = (refl, refl) };
}
