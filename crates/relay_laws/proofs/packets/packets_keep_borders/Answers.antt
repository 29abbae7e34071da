-- By induction over the acts.
use Rattle.relay_laws.proofs.Pieces.{packets_kept}
use Rattle.relay_laws.proofs.packets.packets_keep_borders.Goals as goal

pub returns : goal.returns
returns c = packets_kept
