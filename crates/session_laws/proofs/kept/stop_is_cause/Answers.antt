-- By the lemma.
use Rattle.session_laws.proofs.Ending.{stops}
use Rattle.session_laws.proofs.kept.stop_is_cause.Goals as goal

pub returns : goal.returns
returns c = stops
