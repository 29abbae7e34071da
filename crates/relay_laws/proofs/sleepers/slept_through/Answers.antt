-- All that came is a tick, or nothing.
use Rattle.relay_laws.proofs.Slept.{through}
use Rattle.relay_laws.proofs.sleepers.slept_through.Goals as goal

pub returns : goal.returns
returns c = through
