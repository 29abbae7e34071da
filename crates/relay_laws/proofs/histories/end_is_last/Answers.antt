-- By cases on the act.
use Rattle.relay_laws.proofs.Written.{end_last}
use Rattle.relay_laws.proofs.histories.end_is_last.Goals as goal

pub returns : goal.returns
returns c = end_last
