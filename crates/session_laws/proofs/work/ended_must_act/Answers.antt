-- It holds something.
use Rattle.session_laws.proofs.Ended.{ended}
use Rattle.session_laws.proofs.work.ended_must_act.Goals as goal

pub returns : goal.returns
returns c = ended
