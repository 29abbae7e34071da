use Rattle.std.proofs.Common.{refl, sym}
use Rattle.event_loop.proofs.all_sessions.Sessions.drain_row.Goals as goal
use Rattle.event_loop.proofs.RowRuns.{drains_up}

pub drain-requires-clause-runs : goal.drain-requires-clause-runs
drain-requires-clause-runs g c = drains_up c.args.config.now _ c.args.number c.args.self.now c.in-Some.row.now c.wake_row.new.row c.requires.course (sym c.in-Some.ensures.value) c.wake_row.ensures

pub drain-requires-clause-block : goal.drain-requires-clause-block
drain-requires-clause-block g c = c.requires.course.course.frame.room

pub returns-in-Some-clause-drains : goal.returns-in-Some-clause-drains
returns-in-Some-clause-drains g c =
    let ch = c.in-Some.ensures.changes _ in
    record {
      was = c.in-Some.row.now;
      up = c.wake_row.new.row;
      is = _;
      had = sym c.in-Some.ensures.value;
      has = ch.row;
      wakened = c.wake_row.ensures;
      runs = c.drain.ensures.runs;
      turn_same = refl;
      paused = c.drain.ensures.pause;
      others = ch.others;
      same = record { door_same = refl; pending_session_same = refl; clock_same = refl; made_same = refl; scratch_same = c.drain.ensures.scratch; admitted_same = ch.admitted; bounds_same = ch.bounds };
      lists = record { work_same = refl; timers_same = refl };
    }
