-- By induction on the list.
use Rattle.relay_laws.proofs.Written.{passed_whole}
use Rattle.relay_laws.proofs.histories.passed_is_whole.Goals as goal

pub returns : goal.returns
returns c = passed_whole
