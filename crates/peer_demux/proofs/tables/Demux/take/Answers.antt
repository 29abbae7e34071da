use Rattle.std.proofs.Common.{arith}
use Rattle.peer_demux.proofs.Places.{found_at, gives_nothing}
use Rattle.peer_demux.proofs.tables.Demux.take.Goals as goal

pub returns-then-count-eq0 : goal.returns-then-count-eq0
returns-then-count-eq0 c =
    let told = rw c.deref.ensures.value at c.place_of-place.ensures in
    let live = rw (← c.self.view_is) at c.requires.live in
    let stands = found_at c.self.inside.rows.items c.args.row c.place_of-place.result c.self.invariant.rising told.below told.above live in
    (c.place_of-place.result, rw (← c.self.view_is) stands, rw c.if-count-eq0.true at c.in-Some.ensures)

pub returns : goal.returns
returns c =
    let told = rw c.deref.ensures.value at c.place_of-place.ensures in
    let live = rw (← c.self.view_is) at c.requires.live in
    let stands = found_at c.self.inside.rows.items c.args.row c.place_of-place.result c.self.invariant.rising told.below told.above live in
    (c.place_of-place.result, rw (← c.self.view_is) stands, (omega (arith, c.if-count-eq0.false), c.in-Some.ensures))

pub returns-in_default : goal.returns-in_default
returns-in_default c =
    let told = rw c.deref.ensures.value at c.place_of-place.ensures in
    let live = rw (← c.self.view_is) at c.requires.live in
    let stands = found_at c.self.inside.rows.items c.args.row c.place_of-place.result c.self.invariant.rising told.below told.above live in
    rw (c.nothing_of.ensures, ← c.self.view_is) (c.place_of-place.result, stands, gives_nothing _ _ _ _ (rw (c.in_default.is, ← c.self.view_is) at c.give_at.ensures))
