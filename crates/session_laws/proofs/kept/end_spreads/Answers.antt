-- By the lemma.
use Rattle.session_laws.proofs.Ending.{spreads}
use Rattle.session_laws.proofs.kept.end_spreads.Goals as goal

pub returns : goal.returns
returns c = spreads
