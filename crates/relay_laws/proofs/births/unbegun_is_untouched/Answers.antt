-- Act by act.
use Rattle.relay_laws.proofs.Untouched.{untouched}
use Rattle.relay_laws.proofs.births.unbegun_is_untouched.Goals as goal

pub returns : goal.returns
returns c = untouched
