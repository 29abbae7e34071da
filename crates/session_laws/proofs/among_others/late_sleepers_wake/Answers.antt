use Rattle.session_laws.proofs.Members.{late}
use Rattle.session_laws.proofs.among_others.late_sleepers_wake.Goals as goal

pub returns : goal.returns
returns c = late
