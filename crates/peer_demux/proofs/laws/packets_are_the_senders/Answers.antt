-- Call by call.
use Rattle.peer_demux.proofs.SenderLemmas.{senders_own}
use Rattle.peer_demux.proofs.laws.packets_are_the_senders.Goals as goal

pub returns : goal.returns
returns c = senders_own
