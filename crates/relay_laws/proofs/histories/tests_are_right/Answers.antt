-- What passes is legal, and what is legal passes.
use Rattle.relay_laws.proofs.Complete.{tests_right}
use Rattle.relay_laws.proofs.histories.tests_are_right.Goals as goal

pub returns : goal.returns
returns c = tests_right
