use Rattle.std.proofs.Common.{rules}
use Rattle.socket_ports.proofs.crowd.Crowd.read.Goals as goal

pub returns-clause-packet : goal.returns-clause-packet
returns-clause-packet g c = λ _. (c.has_failed.new.self.hub, search rules, search rules)
