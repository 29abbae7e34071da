use Rattle.peer_demux.proofs.Absorbed.{reads_row}
use Rattle.peer_demux.proofs.hubs.Hub.take_row.Goals as goal

pub returns-clause-taken : goal.returns-clause-taken
returns-clause-taken g c = rw (c.got_of.ensures, ← c.self.view_is) (reads_row _ _ _ _ _ c.take.ensures)
