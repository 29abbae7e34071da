use Rattle.std.proofs.Common.{◌≡◌, take, false}
use Rattle.socket_ports.specs.Pollers.{has_shared}
use Rattle.socket_ports.proofs.poller.has_shared.Given as goal

abbrev pub invariant-loop-i : goal.invariant-loop-i
invariant-loop-i l = has_shared (take l.i l.ready.entries) ≡ false
