-- What passes may come, and what may come passes.
use Rattle.relay_laws.proofs.Complete.{one_right}
use Rattle.relay_laws.proofs.histories.one_test_is_right.Goals as goal

pub returns : goal.returns
returns c = one_right
