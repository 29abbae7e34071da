-- By cases on the act.
use Rattle.relay_laws.proofs.Elsewhere.{steps_leave}
use Rattle.relay_laws.proofs.frames.steps_leave_the_rest.Goals as goal

pub returns : goal.returns
returns c = steps_leave
