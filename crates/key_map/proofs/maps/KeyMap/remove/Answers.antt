use Rattle.std.proofs.Common.{◌≡◌, ◌+◌, ◌-◌, ap, sym, ◌∙◌, arith, vec_len, vec_capacity}
use Rattle.key_map.specs.Entries.{Keyed}
use Rattle.key_map.proofs.Found.{got_at, got_none, removed_at, removed_gap, chosen_some, chosen_none}
use Rattle.key_map.proofs.maps.KeyMap.remove.Goals as goal

pub returns-in-Ok-clause-values : goal.returns-in-Ok-clause-values
returns-in-Ok-clause-values c =
    rw c.remove.ensures.items (removed_at _ _ _ _ (ap (λ (k : Keyed). k.values) c.self.view_is) (rw c.deref.ensures.value at c.in-Ok.ensures.found))

pub returns-in-Ok-clause-room : goal.returns-in-Ok-clause-room
returns-in-Ok-clause-room c =
    let found = got_at _ _ _ _ _ (ap (λ (k : Keyed). k.values) c.self.view_is) (rw c.deref.ensures.value at c.in-Ok.ensures.found) c.remove.ensures.value in
    let is = ap (λ (k : Keyed). k.room) c.self.view_is in
    let left : vec_capacity c.remove.new.self - vec_len c.remove.new.self ≡ c.args.self.now.room + 1 =
    let before = c.self.inside.pairs.ok.1 in
    omega (arith, c.remove.ensures.len, c.remove.ensures.capacity) in
    left ∙ sym (chosen_some _ _ _ _ found)

pub returns-in-Err-clause-values : goal.returns-in-Err-clause-values
returns-in-Err-clause-values c =
    removed_gap _ _ _ _ (ap (λ (k : Keyed). k.values) c.self.view_is) (rw c.deref.ensures.value at c.in-Err.ensures.absent)

pub returns-in-Err-clause-room : goal.returns-in-Err-clause-room
returns-in-Err-clause-room c =
    let none = got_none _ _ _ _ (ap (λ (k : Keyed). k.values) c.self.view_is) (rw c.deref.ensures.value at c.in-Err.ensures.absent) in
    sym (chosen_none _ _ _ none)

pub returns-in-Ok-clause-value : goal.returns-in-Ok-clause-value
returns-in-Ok-clause-value c = sym (got_at _ _ _ _ _ (ap (λ (k : Keyed). k.values) c.self.view_is) (rw c.deref.ensures.value at c.in-Ok.ensures.found) c.remove.ensures.value)

pub returns-in-Err-clause-value : goal.returns-in-Err-clause-value
returns-in-Err-clause-value c = sym (got_none _ _ _ _ (ap (λ (k : Keyed). k.values) c.self.view_is) (rw c.deref.ensures.value at c.in-Err.ensures.absent))
