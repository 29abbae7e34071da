use Rattle.socket_ports.specs.Pollers.{Extends}
use Rattle.socket_ports.proofs.crowds.Crowds.gather.Given as goal

abbrev pub invariant-loop-place : goal.invariant-loop-place
invariant-loop-place l = Extends l.fn.ready l.ready
