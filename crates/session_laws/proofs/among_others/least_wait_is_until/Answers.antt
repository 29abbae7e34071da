use Rattle.session_laws.proofs.Waits.{least_wait}
use Rattle.session_laws.proofs.among_others.least_wait_is_until.Goals as goal

pub returns : goal.returns
returns c = least_wait
