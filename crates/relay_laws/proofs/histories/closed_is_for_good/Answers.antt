-- It stays closed, and no peer is accepted there again.
use Rattle.relay_laws.proofs.Finality.{for_good}
use Rattle.relay_laws.proofs.histories.closed_is_for_good.Goals as goal

pub returns : goal.returns
returns c = for_good
