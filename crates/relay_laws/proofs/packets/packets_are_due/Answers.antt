-- By induction over the acts.
use Rattle.relay_laws.proofs.Pieces.{packets_due}
use Rattle.relay_laws.proofs.packets.packets_are_due.Goals as goal

pub returns : goal.returns
returns c = packets_due
