use Rattle.std.proofs.Common.{◌≡◌, ℕ, ◌*◌, ◌≤◌, List, true, ◌++◌, length}
use Rattle.crossbeam_queue.specs.Passes.{view, IsPassOf}
use Rattle.ring_queue.specs.Items.{bytes_of}
use Rattle.ring_writer.proofs.writer_thread.drop_ready.Given as goal

abbrev pub invariant-loop-i : goal.invariant-loop-i
invariant-loop-i g l = record {
  pass : IsPassOf l.lines.items l.taker;
  takes : (view l.taker).takes ≡ true;
  taken : (more : List ℕ) × (bytes_of (view l.taker).taken ≡ bytes_of (view l.fn.taker).taken ++ more) × (length more ≤ 512 * l.i);
}
