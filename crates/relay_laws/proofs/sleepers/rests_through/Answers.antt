-- A tick before anything falls due changes nothing of it.
use Rattle.relay_laws.proofs.Resting.{sleeps_on}
use Rattle.relay_laws.proofs.sleepers.rests_through.Goals as goal

pub returns : goal.returns
returns c = sleeps_on
