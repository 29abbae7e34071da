use Rattle.std.proofs.Common.{◌∙◌}
use Rattle.relay_audit.proofs.Lists.{starts_as_begins}
use Rattle.relay_audit.proofs.may.begins.Goals as goal

pub returns : goal.returns
returns c = c.starts_with.ensures.value ∙ starts_as_begins c.args.first.now c.args.list.now
