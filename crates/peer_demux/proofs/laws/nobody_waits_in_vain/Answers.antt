-- Call by call.
use Rattle.peer_demux.proofs.Waking.{nobody_waits}
use Rattle.peer_demux.proofs.laws.nobody_waits_in_vain.Goals as goal

pub returns : goal.returns
returns c = nobody_waits
