-- By computing.
use Rattle.relay_laws.proofs.Examples.{judged}
use Rattle.relay_laws.proofs.histories.examples_are_judged.Goals as goal

pub returns : goal.returns
returns c = judged
