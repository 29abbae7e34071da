-- By induction on the list.
use Rattle.relay_laws.proofs.Holdings.{standing_held}
use Rattle.relay_laws.proofs.histories.standing_is_held.Goals as goal

pub returns : goal.returns
returns c = standing_held
