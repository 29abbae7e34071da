use Rattle.std.proofs.Common.{ap, sym}
use Rattle.key_map.specs.Entries.{Keyed}
use Rattle.key_map.proofs.Found.{got_at, got_none}
use Rattle.key_map.proofs.maps.KeyMap.get.Goals as goal

pub returns-in-Ok : goal.returns-in-Ok
returns-in-Ok c = sym (got_at _ _ _ _ _ (ap (λ (k : Keyed). k.values) c.self.view_is) (rw c.deref.ensures.value at c.in-Ok.ensures.found) c.index.ensures)

pub returns-in-Err : goal.returns-in-Err
returns-in-Err c = sym (got_none _ _ _ _ (ap (λ (k : Keyed). k.values) c.self.view_is) (rw c.deref.ensures.value at c.in-Err.ensures.absent))
