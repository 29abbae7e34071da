use Rattle.std.proofs.Common.{◌≡◌, ◌-◌, ◌≤◌, length, take}
use Rattle.crossbeam_queue.specs.Passes.{view, IsSamePass}
use Rattle.ring_queue.specs.Order.{view_of}
use Rattle.ring_queue.specs.Items.{AddsChunks}
use Rattle.ring_reader.proofs.reader_thread.send_chunks.Given as goal

abbrev pub invariant-loop-at : goal.invariant-loop-at
invariant-loop-at g l = record {
  queue : IsSamePass l.fn.pass l.pass;
  looks : view l.pass ≡ view_of (view l.fn.pass).sends (view l.fn.pass).takes (view l.pass).sent (view l.fn.pass).taken;
  sent : AddsChunks (view l.fn.pass).sent (view l.pass).sent (take l.at l.bytes);
  within : l.at ≤ length l.bytes;
}

abbrev pub decreases-loop-at : goal.decreases-loop-at
decreases-loop-at g l = length l.bytes - l.at
