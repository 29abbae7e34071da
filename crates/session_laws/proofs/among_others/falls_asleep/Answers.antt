use Rattle.session_laws.proofs.Members.{asleep}
use Rattle.session_laws.proofs.among_others.falls_asleep.Goals as goal

pub returns : goal.returns
returns c = asleep
