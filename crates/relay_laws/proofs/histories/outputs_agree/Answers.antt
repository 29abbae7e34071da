-- Both are prefixes of the same bytes.
use Rattle.relay_laws.proofs.Written.{outputs_agreeing}
use Rattle.relay_laws.proofs.histories.outputs_agree.Goals as goal

pub returns : goal.returns
returns c = outputs_agreeing
