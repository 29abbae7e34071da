use Rattle.event_loop.specs.Courses.{NoWork, SameButWork}
use Rattle.event_loop.proofs.RowLoops.{ahead}
use Rattle.event_loop.proofs.Hearing.{LivesTo, QueuedTo}
use Rattle.event_loop.proofs.all_sessions.Sessions.queue_all.Given as goal

abbrev pub invariant-loop-next : goal.invariant-loop-next
invariant-loop-next l = record {
  queued : QueuedTo l.next l.self.table l.self.work.items;
  same : SameButWork l.fn.self l.self;
  lives : NoWork l.fn.self → LivesTo l.next l.self.table l.self.work.items;
}

abbrev pub decreases-loop-next : goal.decreases-loop-next
decreases-loop-next l = ahead l.next
