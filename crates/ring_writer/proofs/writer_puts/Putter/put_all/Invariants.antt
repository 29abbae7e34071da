use Rattle.std.proofs.Common.{◌≡◌, ◌-◌, ◌≤◌, length, take}
use Rattle.crossbeam_queue.specs.Passes.{view}
use Rattle.ring_queue.specs.Items.{AddsChunks}
use Rattle.ring_writer.specs.WriterPuts.{IsPutting}
use Rattle.ring_writer.proofs.writer_puts.Putter.put_all.Given as goal

abbrev pub invariant-loop-count : goal.invariant-loop-count
invariant-loop-count g l = record {
  putting : IsPutting l.self;
  lines : l.self.lines ≡ l.fn.self.lines;
  ended : l.self.ended ≡ l.fn.self.ended;
  bound : l.count ≤ length l.bytes;
  put : AddsChunks (view l.fn.self.sender).sent (view l.self.sender).sent (take l.count l.bytes);
  marks : length (view l.self.taker).taken ≡ length (view l.fn.self.taker).taken;
}

abbrev pub decreases-loop-count : goal.decreases-loop-count
decreases-loop-count g l = length l.bytes - l.count
