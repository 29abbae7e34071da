-- By induction on the list.
use Rattle.relay_laws.proofs.Written.{written_due}
use Rattle.relay_laws.proofs.histories.written_is_due.Goals as goal

pub returns : goal.returns
returns c = written_due
