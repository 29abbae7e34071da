-- Call by call.
use Rattle.peer_demux.proofs.SenderLemmas.{one_row}
use Rattle.peer_demux.proofs.laws.one_row_a_sender.Goals as goal

pub returns : goal.returns
returns c = one_row
