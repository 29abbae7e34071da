use Rattle.std.proofs.Common.{◌≡◌, ◌-◌, ap, sym, subst, ◌∙◌, arith, vec_len, vec_capacity}
use Rattle.key_map.specs.Entries.{Keyed, IsRising}
use Rattle.key_map.proofs.Found.{got_at, got_none, put_at, put_gap, rising_insert, chosen_some, chosen_none}
use Rattle.key_map.proofs.maps.KeyMap.put.Goals as goal

pub insert_pair-requires-clause-room : goal.insert_pair-requires-clause-room
insert_pair-requires-clause-room c =
    let none = got_none _ _ _ _ (ap (λ (k : Keyed). k.values) c.self.view_is) (rw c.deref.ensures.value at c.in-Err.ensures.absent) in
    let room = c.requires none in
    let is = ap (λ (k : Keyed). k.room) c.self.view_is in
    omega arith

pub invariant_of-self-in-Err : goal.invariant_of-self-in-Err
invariant_of-self-in-Err c =
    subst IsRising (sym c.insert_pair.ensures.items) (rising_insert _ _ _ _ (rw c.deref.ensures.value at c.in-Err.ensures.absent))

pub returns-in-Ok-clause-values : goal.returns-in-Ok-clause-values
returns-in-Ok-clause-values c =
    put_at _ _ _ _ _ _ (ap (λ (k : Keyed). k.values) c.self.view_is) (rw c.deref.ensures.value at c.in-Ok.ensures.found) c.index_mut.ensures.value

pub returns-in-Ok-clause-room : goal.returns-in-Ok-clause-room
returns-in-Ok-clause-room c =
    let found = got_at _ _ _ _ _ (ap (λ (k : Keyed). k.values) c.self.view_is) (rw c.deref.ensures.value at c.in-Ok.ensures.found) c.index_mut.ensures.value in
    ap (λ (k : Keyed). k.room) c.self.view_is ∙ sym (chosen_some _ _ _ _ found)

pub returns-in-Err-clause-values : goal.returns-in-Err-clause-values
returns-in-Err-clause-values c =
    rw c.insert_pair.ensures.items (put_gap _ _ _ _ _ (ap (λ (k : Keyed). k.values) c.self.view_is) (rw c.deref.ensures.value at c.in-Err.ensures.absent))

pub returns-in-Err-clause-room : goal.returns-in-Err-clause-room
returns-in-Err-clause-room c =
    let none = got_none _ _ _ _ (ap (λ (k : Keyed). k.values) c.self.view_is) (rw c.deref.ensures.value at c.in-Err.ensures.absent) in
    let is = ap (λ (k : Keyed). k.room) c.self.view_is in
    let left : vec_capacity c.insert_pair.new.pairs - vec_len c.insert_pair.new.pairs ≡ c.args.self.now.room - 1 = omega (arith, c.insert_pair.ensures.len, c.insert_pair.ensures.capacity) in
    left ∙ sym (chosen_none _ _ _ none)
