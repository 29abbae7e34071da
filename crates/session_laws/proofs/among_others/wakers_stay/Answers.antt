use Rattle.session_laws.proofs.Members.{stays}
use Rattle.session_laws.proofs.among_others.wakers_stay.Goals as goal

pub returns : goal.returns
returns c = stays
