use Rattle.std.proofs.Common.{◌≡◌, length}
use Rattle.crossbeam_queue.specs.Passes.{view}
use Rattle.ring_writer.specs.WriterPuts.{IsPutting}
use Rattle.ring_writer.proofs.writer_puts.Putter.put_waiting.Given as goal

abbrev pub invariant-loop : goal.invariant-loop
invariant-loop g l = record {
  can : (goal.iterator-loop g).can_next l.iterator';
  finite : (goal.iterator-loop g).is_finite l.iterator';
  putting : IsPutting l.self;
  lines : l.self.lines ≡ l.fn.self.lines;
  ended : l.self.ended ≡ l.fn.self.ended;
  sent : (view l.self.sender).sent ≡ (view l.fn.self.sender).sent;
  marks : length (view l.self.taker).taken ≡ length (view l.fn.self.taker).taken;
}
