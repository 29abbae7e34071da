-- Act by act.
use Rattle.relay_laws.proofs.Untouched.{new}
use Rattle.relay_laws.proofs.births.untouched_is_new.Goals as goal

pub returns : goal.returns
returns c = new
