use Rattle.socket_ports.specs.Pollers.{Extends}
use Rattle.socket_ports.proofs.crowd.Crowd.name_peers.Given as goal

abbrev pub invariant-loop : goal.invariant-loop
invariant-loop g l = Extends l.fn.ready l.ready
