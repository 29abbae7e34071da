-- By induction on the list.
use Rattle.relay_laws.proofs.Begun.{begun}
use Rattle.relay_laws.proofs.histories.held_has_begun.Goals as goal

pub returns : goal.returns
returns c = begun
