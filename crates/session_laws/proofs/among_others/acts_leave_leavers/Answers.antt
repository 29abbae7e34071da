use Rattle.session_laws.proofs.Members.{acts_leave}
use Rattle.session_laws.proofs.among_others.acts_leave_leavers.Goals as goal

pub returns : goal.returns
returns c = acts_leave
