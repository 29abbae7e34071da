-- Act by act.
use Rattle.relay_laws.proofs.Untouched.{unbegun_unnamed}
use Rattle.relay_laws.proofs.births.unbegun_is_unnamed.Goals as goal

pub returns : goal.returns
returns c = unbegun_unnamed
