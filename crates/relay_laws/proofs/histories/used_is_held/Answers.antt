-- By cases on the act.
use Rattle.relay_laws.proofs.Holdings.{used_held}
use Rattle.relay_laws.proofs.histories.used_is_held.Goals as goal

pub returns : goal.returns
returns c = used_held
