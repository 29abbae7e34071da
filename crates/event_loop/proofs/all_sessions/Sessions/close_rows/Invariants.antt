use Rattle.std.specs.Prelude.{◌≡◌}
use Rattle.event_loop.proofs.Emptying.{IsGone, LeaveSoFar}
use Rattle.event_loop.proofs.LivingRows.{SameOn}
use Rattle.event_loop.proofs.RowLoops.{ahead, RowsTo}
use Rattle.event_loop.proofs.all_sessions.Sessions.close_rows.Given as goal

abbrev pub invariant-loop-next : goal.invariant-loop-next
invariant-loop-next g l = record {
  keeps : LeaveSoFar l.config (g.W.World.seen l.initial.world) (g.W.World.seen l.world) l.why l.initial.self l.self l.next l.initial.steps.ticks l.steps.ticks;
  same : SameOn l.next l.initial.self l.self;
  gone : RowsTo IsGone l.next l.initial.self l.self;
  made : l.self.made ≡ l.initial.self.made;
}

abbrev pub decreases-loop-next : goal.decreases-loop-next
decreases-loop-next g l = ahead l.next
