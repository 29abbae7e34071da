use Rattle.session_laws.proofs.Members.{accept_ends}
use Rattle.session_laws.proofs.among_others.failed_accept_ends_all.Goals as goal

pub returns : goal.returns
returns c = accept_ends
