-- It doesn't live.
use Rattle.relay_laws.proofs.Resting.{gone}
use Rattle.relay_laws.proofs.sleepers.gone_rests.Goals as goal

pub returns : goal.returns
returns c = gone
