use Rattle.std.proofs.Common.{rules}
use Rattle.socket_maker.proofs.port.HostPortPort.write.Goals as goal

pub returns-in-Looking : goal.returns-in-Looking
returns-in-Looking c = record {
  accepts = (c.barred_write.ensures.none c.args.bytes.now).0;
  gave = search rules;
  unshut = search rules;
  unemptied = search rules;
  begun = search rules;
  ended = search rules;
  child = search rules;
  served = search rules;
  counts = search rules;
}
