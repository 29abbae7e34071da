-- All that came is a tick, or nothing.
use Rattle.relay_laws.proofs.Slept.{is_tick}
use Rattle.relay_laws.proofs.sleepers.slept_is_tick.Goals as goal

pub returns : goal.returns
returns c = is_tick
