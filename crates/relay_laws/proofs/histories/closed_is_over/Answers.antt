-- What isn't held isn't used.
use Rattle.relay_laws.proofs.Holdings.{closed_over}
use Rattle.relay_laws.proofs.histories.closed_is_over.Goals as goal

pub returns : goal.returns
returns c = closed_over
