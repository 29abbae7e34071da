-- The least of two, and of all below a bound.
use Rattle.relay_laws.proofs.Least.{until_least}
use Rattle.relay_laws.proofs.waits.until_is_least.Goals as goal

pub returns : goal.returns
returns c = until_least
