use Rattle.std.proofs.Common.{refl, arith}
use Rattle.event_loop.proofs.all_sessions.Sessions.take_turn.Goals as goal

pub returns : goal.returns
returns c = record {
  door = c.hear_door.ensures;
  ready_same = refl;
  table_same = refl;
  lists = record { work_same = refl; timers_same = refl };
  pending_session_same = refl;
  clock_is = refl;
  made_is = refl;
  scratch_same = refl;
  on_clock = omega arith;
}
