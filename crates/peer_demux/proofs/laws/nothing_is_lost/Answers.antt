-- Call by call.
use Rattle.peer_demux.proofs.Kept.{nothing_lost}
use Rattle.peer_demux.proofs.laws.nothing_is_lost.Goals as goal

pub returns : goal.returns
returns c = nothing_lost
