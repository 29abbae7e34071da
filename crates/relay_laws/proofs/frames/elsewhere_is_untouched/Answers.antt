-- By cases on the act.
use Rattle.relay_laws.proofs.Elsewhere.{elsewhere}
use Rattle.relay_laws.proofs.frames.elsewhere_is_untouched.Goals as goal

pub returns : goal.returns
returns c = elsewhere
