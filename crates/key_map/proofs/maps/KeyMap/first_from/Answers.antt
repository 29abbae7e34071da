use Rattle.std.proofs.Common.{ap, arith}
use Rattle.key_map.specs.Entries.{Keyed}
use Rattle.key_map.proofs.Found.{first_at, none_from}
use Rattle.key_map.proofs.maps.KeyMap.first_from.Goals as goal

pub returns-then-place-len : goal.returns-then-place-len
returns-then-place-len c =
    let told = rw c.deref.ensures.value at c.place_of-place.ensures in
    first_at _ c.self.inside.pairs.items c.place_of-place.result c.args.key _ (ap (λ (k : Keyed). k.values) c.self.view_is) c.self.invariant (omega (arith, c.if-place-len.true, c.len.ensures)) c.index.ensures told.below told.above

pub returns-else-place-len : goal.returns-else-place-len
returns-else-place-len c =
    let told = rw c.deref.ensures.value at c.place_of-place.ensures in
    none_from _ c.self.inside.pairs.items c.place_of-place.result c.args.key (ap (λ (k : Keyed). k.values) c.self.view_is) told.below (omega (arith, c.if-place-len.false, c.len.ensures))
