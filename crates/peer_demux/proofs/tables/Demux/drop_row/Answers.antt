use Rattle.peer_demux.proofs.Places.{dropped, found_at}
use Rattle.peer_demux.proofs.tables.Demux.drop_row.Goals as goal

pub returns : goal.returns
returns c =
    let told = rw c.deref.ensures.value at c.place_of-place.ensures in
    let live = rw (← c.self.view_is) at c.requires in
    rw (← c.self.view_is) (dropped _ _ _ _ (found_at _ _ _ c.self.invariant.rising told.below told.above live) c.remove.ensures.items)
