use Rattle.std.proofs.Common.{rules}
use Rattle.socket_maker.proofs.port.HostPortPort.read.Goals as goal

pub returns-in-Looking : goal.returns-in-Looking
returns-in-Looking c = record {
  gives = c.barred_read.ensures.none c.args.into.now;
  took = search rules;
  unshut = search rules;
  emptied = search rules;
  begun = search rules;
  ended = search rules;
  child = search rules;
  served = search rules;
  counts = search rules;
}
