-- The histories say the same of the session.
use Rattle.session_laws.proofs.Others.{ground_kept}
use Rattle.session_laws.proofs.kept.ground_is_kept.Goals as goal

pub returns : goal.returns
returns c = ground_kept
