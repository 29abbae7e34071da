-- By induction on the list.
use Rattle.relay_laws.proofs.Written.{backlog_bound}
use Rattle.relay_laws.proofs.histories.backlog_is_bounded.Goals as goal

pub returns : goal.returns
returns c = backlog_bound
