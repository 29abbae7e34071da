use Rattle.session_laws.proofs.Members.{closings_leave}
use Rattle.session_laws.proofs.among_others.closings_leave_leavers.Goals as goal

pub returns : goal.returns
returns c = closings_leave
