-- By the lemma.
use Rattle.session_laws.proofs.Others.{late_kept}
use Rattle.session_laws.proofs.kept.woken_late.Goals as goal

pub returns : goal.returns
returns c = late_kept
