use Rattle.session_laws.proofs.Members.{wakes}
use Rattle.session_laws.proofs.among_others.sleepers_wake.Goals as goal

pub returns : goal.returns
returns c = wakes
