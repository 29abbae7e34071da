use Rattle.std.proofs.Common.{◌≡◌}
use Rattle.crossbeam_queue.specs.Passes.{view}
use Rattle.ring_writer.specs.WriterThread.{CanWork, IsTrueToSink}
use Rattle.ring_writer.proofs.writer_thread.WriterWork.run.Given as goal

abbrev pub invariant-loop : goal.invariant-loop
invariant-loop g l = record {
  can : (goal.iterator-loop g).can_next l.iterator';
  finite : (goal.iterator-loop g).is_finite l.iterator';
  work : CanWork {K = g.row.K.Denot} {W = g.row.W.Denot} {R = g.row.R.Denot} l.self;
  true_to_sink : IsTrueToSink {K = g.row.K.Denot} g.K.Sink.took g.K.Sink.faults (g.K.Sink.took l.fn.self.outlet.sink) (g.K.Sink.faults l.fn.self.outlet.sink) l.self.outlet (view l.self.taker).taken (view l.self.sender).sent;
  lines : l.self.lines ≡ l.fn.self.lines;
}
