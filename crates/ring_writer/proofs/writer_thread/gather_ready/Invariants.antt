use Rattle.std.proofs.Common.{◌≡◌, ℕ, List, true, ◌++◌, ◌*◌, ◌≤◌, vec_len, vec_capacity}
use Rattle.crossbeam_queue.specs.Passes.{view, IsPassOf}
use Rattle.ring_queue.specs.Items.{bytes_of}
use Rattle.ring_writer.proofs.writer_thread.gather_ready.Given as goal

abbrev pub invariant-loop-i : goal.invariant-loop-i
invariant-loop-i g l = record {
  pass : IsPassOf l.lines.items l.taker;
  takes : (view l.taker).takes ≡ true;
  room : 32768 ≤ vec_capacity l.buffer;
  fits : vec_len l.buffer ≤ 512 * l.i;
  taken : (before : List ℕ) → bytes_of (view l.fn.taker).taken ≡ before ++ l.fn.buffer.items → bytes_of (view l.taker).taken ≡ before ++ l.buffer.items;
}
