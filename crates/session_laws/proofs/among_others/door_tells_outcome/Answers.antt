use Rattle.session_laws.proofs.Ends.{told_outcome}
use Rattle.session_laws.proofs.among_others.door_tells_outcome.Goals as goal

pub returns : goal.returns
returns c = told_outcome
