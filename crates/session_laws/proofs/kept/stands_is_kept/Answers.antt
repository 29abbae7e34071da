-- The histories say the same of the session.
use Rattle.session_laws.proofs.Others.{stands_kept}
use Rattle.session_laws.proofs.kept.stands_is_kept.Goals as goal

pub returns : goal.returns
returns c = stands_kept
