use Rattle.session_laws.proofs.Members.{awake}
use Rattle.session_laws.proofs.among_others.hearers_are_awake.Goals as goal

pub returns : goal.returns
returns c = awake
