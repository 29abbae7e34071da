-- The turn takes the place of all quiet ones before it.
use Rattle.relay_laws.proofs.Slept.{wakes}
use Rattle.relay_laws.proofs.sleepers.wakes_alike.Goals as goal

pub returns : goal.returns
returns c = wakes
