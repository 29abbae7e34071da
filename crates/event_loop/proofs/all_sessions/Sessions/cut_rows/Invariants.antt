use Rattle.event_loop.specs.Courses.{SameRest, SameLists}
use Rattle.event_loop.specs.Endings.{CutRow}
use Rattle.event_loop.proofs.LivingRows.{LooksTo}
use Rattle.event_loop.proofs.RowLoops.{RowsTo, ahead}
use Rattle.event_loop.proofs.all_sessions.Sessions.cut_rows.Given as goal

abbrev pub invariant-loop-next : goal.invariant-loop-next
invariant-loop-next g l = record {
  rows : RowsTo (CutRow l.fn.self.made l.fn.self.clock l.why) l.next l.fn.self l.self;
  same : SameRest l.fn.self l.self;
  lists : SameLists l.fn.self l.self;
  looks : LooksTo l.fn.self l.next l.fn.steps.ticks l.steps.ticks;
}

abbrev pub decreases-loop-next : goal.decreases-loop-next
decreases-loop-next g l = ahead l.next
