-- By cases on the act.
use Rattle.relay_laws.proofs.Changing.{steps_change}
use Rattle.relay_laws.proofs.frames.steps_change_their_own.Goals as goal

pub returns : goal.returns
returns c = steps_change
