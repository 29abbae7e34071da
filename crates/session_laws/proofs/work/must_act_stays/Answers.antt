-- Where it rests after the act, it rested before it.
use Rattle.session_laws.proofs.Stays.{stays}
use Rattle.session_laws.proofs.work.must_act_stays.Goals as goal

pub returns : goal.returns
returns c = stays
