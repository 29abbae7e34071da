-- The turn takes the place of all quiet ones.
use Rattle.session_laws.proofs.Others.{stopped_kept}
use Rattle.session_laws.proofs.kept.woken_stands.Goals as goal

pub returns : goal.returns
returns c = stopped_kept
