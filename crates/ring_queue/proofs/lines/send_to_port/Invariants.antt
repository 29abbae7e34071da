use Rattle.std.proofs.Common.{◌≡◌}
use Rattle.crossbeam_queue.specs.Passes.{view, IsSamePass}
use Rattle.ring_queue.proofs.lines.send_to_port.Given as goal

abbrev pub invariant-loop : goal.invariant-loop
invariant-loop g l = IsSamePass l.fn.pass l.pass × (view l.pass ≡ view l.fn.pass) × (l.item ≡ l.fn.item)
