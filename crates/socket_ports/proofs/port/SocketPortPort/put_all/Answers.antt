use Rattle.std.proofs.Common.{rules}
use Rattle.socket_ports.proofs.port.SocketPortPort.put_all.Goals as goal

pub returns-then-failed-clause-puts : goal.returns-then-failed-clause-puts
returns-then-failed-clause-puts g c = record {
  accepts = rw (← c.self.view_is) (c.transmit_front-count.result.0, c.transmit_front-count.ensures.bound, c.transmit_front-count.ensures.took);
  gave = search rules;
  unshut = search rules;
  unemptied = search rules;
  begun = search rules;
  ended = search rules;
  child = search rules;
  served = search rules;
  counts = search rules;
}
