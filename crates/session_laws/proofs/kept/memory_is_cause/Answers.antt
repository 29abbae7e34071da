-- By the lemma.
use Rattle.session_laws.proofs.Ending.{forgets}
use Rattle.session_laws.proofs.kept.memory_is_cause.Goals as goal

pub returns : goal.returns
returns c = forgets
