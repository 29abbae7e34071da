-- The turn takes the place of all quiet ones.
use Rattle.session_laws.proofs.Others.{hears_kept}
use Rattle.session_laws.proofs.kept.woken_hears.Goals as goal

pub returns : goal.returns
returns c = hears_kept
