use Rattle.event_loop.specs.Turns.{HearsRow, SameBesides}
use Rattle.event_loop.proofs.LivingRows.{LooksTo}
use Rattle.event_loop.proofs.RowLoops.{RowsTo, ahead}
use Rattle.event_loop.proofs.all_sessions.Sessions.stop_all.Given as goal
use Rattle.std.specs.Prelude.{true}

abbrev pub invariant-loop-next : goal.invariant-loop-next
invariant-loop-next g l = record {
  rows : RowsTo (λ s. HearsRow l.fn.self.made l.fn.self.clock l.fn.self.ready true) l.next l.fn.self l.self;
  same : SameBesides l.fn.self l.self;
  looks : LooksTo l.fn.self l.next l.fn.steps.ticks l.steps.ticks;
}

abbrev pub decreases-loop-next : goal.decreases-loop-next
decreases-loop-next g l = ahead l.next
