use Rattle.session_laws.proofs.Members.{resting}
use Rattle.session_laws.proofs.among_others.sleepers_rest.Goals as goal

pub returns : goal.returns
returns c = resting
