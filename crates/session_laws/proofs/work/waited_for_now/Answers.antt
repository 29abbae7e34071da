-- What it waited for is armed work, which the turn leaves armed and untried.
use Rattle.session_laws.proofs.Waited.{waited}
use Rattle.session_laws.proofs.work.waited_for_now.Goals as goal

pub returns : goal.returns
returns c = waited
