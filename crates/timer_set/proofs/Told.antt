-- What the maps tell of the timers, before and after an edit of these.
use Rattle.std.proofs.Common.{◌≡◌, ◌≢◌, ℕ, ◌+◌, ◌-◌, ◌<◌, ◌≤◌, cond, List, [], ◌∷◌, map, length, get_or, set, Option, Some, None, refl, sym, ap, subst, ◌∙◌, arith, get_or-set_other, get_or-set_same}
use Rattle.std.specs.Ordering.{nat_cmp}
use Rattle.std.specs.Cmp.{nat_cmp_total}
use Rattle.std.specs.FinMap.{FinMap, find, get, entries, get-entries, get-from_entries, get-insert, get-remove, same_map, nat_cmp-IsAntisymmetric, insert, remove}
use Rattle.timer_set.specs.declared.timer.Timer.{Timer}
use Rattle.timer_set.specs.Order.{timer_at}
use Rattle.timer_set.specs.Heaps.{HasPlaces, IsHeap, IsShuffled, IsWithout}
use Rattle.timer_set.specs.Moments.{slot_of, at_of, moment_of, moments_of, Tells}
use Rattle.timer_set.specs.Timers.{FallsDueFirst}
use Rattle.key_map.proofs.Found.{test_same, test_other}
use Rattle.timer_set.proofs.Heaps.{no_timer, by_place, slots_apart, first_of_all}

pub got_inserted : (m : FinMap nat_cmp ℕ) (k v q : ℕ) → q ≡ k → get (insert m k v) q ≡ Some v
got_inserted m k v q e = get-insert nat_cmp_total m k v q ∙ ap (λ b. cond b (Some v) (get m q)) (test_same q k e)

pub got_beside : (m : FinMap nat_cmp ℕ) (k v q : ℕ) → q ≢ k → get (insert m k v) q ≡ get m q
got_beside m k v q u = get-insert nat_cmp_total m k v q ∙ ap (λ b. cond b (Some v) (get m q)) (test_other q k u)

pub got_removed : (m : FinMap nat_cmp ℕ) (k q : ℕ) → q ≡ k → get (remove m k) q ≡ None
got_removed m k q e = get-remove nat_cmp_total m k q ∙ ap (λ b. cond b None (get m q)) (test_same q k e)

pub got_left : (m : FinMap nat_cmp ℕ) (k q : ℕ) → q ≢ k → get (remove m k) q ≡ get m q
got_left m k q u = get-remove nat_cmp_total m k q ∙ ap (λ b. cond b None (get m q)) (test_other q k u)

some_is : (x y : ℕ) → Some x ≡ Some y → x ≡ y
some_is x y e = cc

pub not_none : (x : ℕ) (o : Option ℕ) {C : Type 0} → o ≡ None → o ≡ Some x → C
not_none x o n s = let e : None ≡ Some x = sym n ∙ s in cc

-- a value of the map, or none
by_value : {C : Type 0} (o : Option ℕ) → (o ≡ None → C) → ((x : ℕ) → o ≡ Some x → C) → C
by_value {C} o none some = elim o as (λ p. o ≡ p → C) [ None ↦ none | Some x ↦ some x ] refl

pub tells_shuffled : (value : Timer → ℕ) (es fs : List Timer) (n : ℕ) (m : FinMap nat_cmp ℕ) → IsShuffled es fs n → Tells value es n m → Tells value fs n m
tells_shuffled value es fs n m mixed told = record {
  each = λ i h. let w = mixed.came i h in subst (λ (t : Timer). get m t.key ≡ Some (value t)) (sym w.2) (told.each w.0 w.1);
  none_else = λ k x e.
      let p = told.none_else k x e in
      let q = mixed.kept p.0 p.1 in
      (q.0, q.1, ap (λ (t : Timer). t.key) q.2 ∙ p.2, ap value q.2 ∙ p.3);
}

pub tells_new : (value : Timer → ℕ) (es : List Timer) (n : ℕ) (m : FinMap nat_cmp ℕ) (t : Timer) → n < length es → get m t.key ≡ None → Tells value es n m → Tells value (set es n t) (n + 1) (insert m t.key (value t))
tells_new value es n m t within absent told =
    let here : timer_at (set es n t) n ≡ t = get_or-set_same es n t no_timer within in
    record {
      each = λ i h.
          by_place i n
          (λ e. subst (λ (x : Timer). get (insert m t.key (value t)) x.key ≡ Some (value x)) (sym (ap (timer_at (set es n t)) e ∙ here)) (got_inserted m t.key (value t) t.key refl))
          (λ u.
          let old = told.each i (omega arith) in
          let off : (timer_at es i).key ≢ t.key = λ same. not_none _ _ (ap (get m) same ∙ absent) old in
          subst (λ (x : Timer). get (insert m t.key (value t)) x.key ≡ Some (value x)) (sym (get_or-set_other es n i t no_timer u)) (got_beside m t.key (value t) (timer_at es i).key off ∙ old));
      none_else = λ k x e.
          by_place k t.key
          (λ same.
          let is : value t ≡ x = some_is _ _ (sym (got_inserted m t.key (value t) k same) ∙ e) in
          let in' : n < n + 1 = omega arith in
          (n, in', ap (λ (y : Timer). y.key) here ∙ sym same, ap value here ∙ is))
          (λ off.
          let p = told.none_else k x (sym (got_beside m t.key (value t) k off) ∙ e) in
          let in' : p.0 < n + 1 = omega (arith, p.1) in
          let u : p.0 ≢ n = omega (arith, p.1) in
          let was = get_or-set_other es n p.0 t no_timer u in
          (p.0, in', ap (λ (y : Timer). y.key) was ∙ p.2, ap value was ∙ p.3));
    }

-- no other of the timers has this one's key
abbrev IsOnly : List Timer → ℕ → ℕ → Type 0
IsOnly es n p = (i : ℕ) → i < n → i ≢ p → (timer_at es i).key ≢ (timer_at es p).key

pub only_one : (es : List Timer) (ps : List ℕ) (n p : ℕ) (m : FinMap nat_cmp ℕ) → HasPlaces es ps → n ≤ length es → p < n → Tells slot_of es n m → IsOnly es n p
only_one es ps n p m has within in_p told i h u same =
    let one = told.each i h in
    let two = told.each p in_p in
    slots_apart es ps i p has (omega arith) (omega arith) u (some_is _ _ (sym one ∙ ap (get m) same ∙ two))

pub tells_changed : (value : Timer → ℕ) (es : List Timer) (n p : ℕ) (m : FinMap nat_cmp ℕ) (t : Timer) → p < n → p < length es → t.key ≡ (timer_at es p).key → IsOnly es n p → Tells value es n m → Tells value (set es p t) n (insert m t.key (value t))
tells_changed value es n p m t in_p within same_key only told =
    let here : timer_at (set es p t) p ≡ t = get_or-set_same es p t no_timer within in
    record {
      each = λ i h.
          by_place i p
          (λ e. subst (λ (x : Timer). get (insert m t.key (value t)) x.key ≡ Some (value x)) (sym (ap (timer_at (set es p t)) e ∙ here)) (got_inserted m t.key (value t) t.key refl))
          (λ u.
          let off : (timer_at es i).key ≢ t.key = λ same. only i h u (same ∙ same_key) in
          subst (λ (x : Timer). get (insert m t.key (value t)) x.key ≡ Some (value x)) (sym (get_or-set_other es p i t no_timer u)) (got_beside m t.key (value t) (timer_at es i).key off ∙ told.each i h));
      none_else = λ k x e.
          by_place k t.key
          (λ same.
          let is : value t ≡ x = some_is _ _ (sym (got_inserted m t.key (value t) k same) ∙ e) in
          (p, in_p, ap (λ (y : Timer). y.key) here ∙ sym same, ap value here ∙ is))
          (λ off.
          let q = told.none_else k x (sym (got_beside m t.key (value t) k off) ∙ e) in
          let u : q.0 ≢ p = λ at. off (sym q.2 ∙ ap (λ j. (timer_at es j).key) at ∙ sym same_key) in
          let was = get_or-set_other es p q.0 t no_timer u in
          (q.0, q.1, ap (λ (y : Timer). y.key) was ∙ q.2, ap value was ∙ q.3));
    }

-- a timer that keeps its key and the value
pub tells_kept : (value : Timer → ℕ) (es : List Timer) (n p : ℕ) (m : FinMap nat_cmp ℕ) (t : Timer) → p < length es → t.key ≡ (timer_at es p).key → value t ≡ value (timer_at es p) → Tells value es n m → Tells value (set es p t) n m
tells_kept value es n p m t within same_key same_value told =
    let here : timer_at (set es p t) p ≡ t = get_or-set_same es p t no_timer within in
    let keys : (i : ℕ) → (timer_at (set es p t) i).key ≡ (timer_at es i).key = λ i.
    by_place i p
    (λ e. ap (λ j. (timer_at (set es p t) j).key) e ∙ ap (λ (y : Timer). y.key) here ∙ same_key ∙ ap (λ j. (timer_at es j).key) (sym e))
    (λ u. ap (λ (y : Timer). y.key) (get_or-set_other es p i t no_timer u)) in
    let values : (i : ℕ) → value (timer_at (set es p t) i) ≡ value (timer_at es i) = λ i.
    by_place i p
    (λ e. ap (λ j. value (timer_at (set es p t) j)) e ∙ ap value here ∙ same_value ∙ ap (λ j. value (timer_at es j)) (sym e))
    (λ u. ap value (get_or-set_other es p i t no_timer u)) in
    record {
      each = λ i h. ap (get m) (keys i) ∙ told.each i h ∙ ap (λ v. Some v) (sym (values i));
      none_else = λ k x e. let q = told.none_else k x e in (q.0, q.1, keys q.0 ∙ q.2, values q.0 ∙ q.3);
    }

pub tells_without : (value : Timer → ℕ) (es fs : List Timer) (n p : ℕ) (m : FinMap nat_cmp ℕ) (key : ℕ) → (timer_at es p).key ≡ key → IsOnly es n p → IsWithout es fs n p → Tells value es n m → Tells value fs (n - 1) (remove m key)
tells_without value es fs n p m key is only gone told = record {
  each = λ i h.
      let w = gone.came i h in
      let off : (timer_at es w.0).key ≢ key = λ same. only w.0 w.1 w.2 (same ∙ sym is) in
      subst (λ (x : Timer). get (remove m key) x.key ≡ Some (value x)) (sym w.3) (got_left m key (timer_at es w.0).key off ∙ told.each w.0 w.1);
  none_else = λ k x e.
      by_place k key
      (λ same. not_none _ _ (got_removed m key k same) e)
      (λ off.
      let q = told.none_else k x (sym (got_left m key k off) ∙ e) in
      let u : q.0 ≢ p = λ at. off (sym q.2 ∙ ap (λ j. (timer_at es j).key) at ∙ is) in
      let w = gone.kept q.0 q.1 u in
      (w.0, w.1, ap (λ (y : Timer). y.key) w.2 ∙ q.2, ap value w.2 ∙ q.3));
}

-- timers that read alike are told of alike
pub tells_same : (value : Timer → ℕ) (es fs : List Timer) (n : ℕ) (m : FinMap nat_cmp ℕ) → ((i : ℕ) → i < n → timer_at fs i ≡ timer_at es i) → Tells value es n m → Tells value fs n m
tells_same value es fs n m alike told = tells_shuffled value es fs n m (record { kept = λ i h. (i, h, alike i h); came = λ i h. (i, h, alike i h) }) told

-- two maps that tell of the same timers are one
pub told_alike : (value : Timer → ℕ) (es : List Timer) (n : ℕ) (m w : FinMap nat_cmp ℕ) → Tells value es n m → Tells value es n w → m ≡ w
told_alike value es n m w one two =
    let carried : (a b : FinMap nat_cmp ℕ) → Tells value es n a → Tells value es n b → (q x : ℕ) → get a q ≡ Some x → get b q ≡ Some x = λ a b left right q x e.
    let p = left.none_else q x e in
    ap (get b) (sym p.2) ∙ right.each p.0 p.1 ∙ ap (λ v. Some v) p.3 in
    same_map nat_cmp_total nat_cmp-IsAntisymmetric m w (λ q.
    by_value (get m q)
    (λ none. by_value (get w q) (λ also. none ∙ sym also) (λ x e. not_none _ _ none (carried w m two one q x e)))
    (λ x e. e ∙ sym (carried m w one two q x e)))

-- the slot of a key, and the timer that it leads to
pub record LeadsTo (es : List Timer) (ps : List ℕ) (n key slot : ℕ) : Type 0 where
  pub slot_in : slot < length ps
  pub place_in : get_or ps slot 0 < n
  pub key_is : (timer_at es (get_or ps slot 0)).key ≡ key

pub leads : (es : List Timer) (ps : List ℕ) (n key slot : ℕ) (m : FinMap nat_cmp ℕ) → HasPlaces es ps → n ≤ length es → Tells slot_of es n m → get m key ≡ Some slot → LeadsTo es ps n key slot
leads es ps n key slot m has within told e =
    let p = told.none_else key slot e in
    let in_n : p.0 < n = p.1 in
    let is : slot ≡ (timer_at es p.0).slot = sym p.3 in
    let place : get_or ps slot 0 ≡ p.0 = ap (λ k. get_or ps k 0) is ∙ has.placed p.0 (omega arith) in
    record {
      slot_in = subst (λ k. k < length ps) (sym is) (has.within p.0 (omega arith));
      place_in = omega arith;
      key_is = ap (λ k. (timer_at es k).key) place ∙ p.2;
    }

found_mapped : (f : ℕ → ℕ) (xs : List (ℕ × ℕ)) (q : ℕ) (x : ℕ) → find nat_cmp q xs ≡ Some x → find nat_cmp q (map (λ (e : ℕ × ℕ). (e.0, f e.1)) xs) ≡ Some (f x)
found_mapped f [] q x h = not_none _ _ refl h
found_mapped f (e ∷ xs) q x h =
    Rattle.key_map.proofs.Found.by_test q e.0 (λ b. cond b (Some e.1) (find nat_cmp q xs) ≡ Some x → cond b (Some (f e.1)) (find nat_cmp q (map (λ (e : ℕ × ℕ). (e.0, f e.1)) xs)) ≡ Some (f x))
    (λ same is. ap (λ v. Some (f v)) (some_is _ _ is)) (λ off is. found_mapped f xs q x is) h

missed_mapped : (f : ℕ → ℕ) (xs : List (ℕ × ℕ)) (q : ℕ) → find nat_cmp q xs ≡ None → find nat_cmp q (map (λ (e : ℕ × ℕ). (e.0, f e.1)) xs) ≡ None
missed_mapped f [] q h = refl
missed_mapped f (e ∷ xs) q h =
    Rattle.key_map.proofs.Found.by_test q e.0 (λ b. cond b (Some e.1) (find nat_cmp q xs) ≡ None → cond b (Some (f e.1)) (find nat_cmp q (map (λ (e : ℕ × ℕ). (e.0, f e.1)) xs)) ≡ None)
    (λ same is. not_none _ _ is refl) (λ off is. missed_mapped f xs q is) h

pub moment_got : (es : List Timer) (ps : List ℕ) (m : FinMap nat_cmp ℕ) (q slot : ℕ) → get m q ≡ Some slot → get (moments_of es ps m) q ≡ Some (moment_of es ps slot)
moment_got es ps m q slot e = get-from_entries nat_cmp_total _ q ∙ found_mapped (moment_of es ps) (entries m) q slot (sym (get-entries m q) ∙ e)

pub moment_missed : (es : List Timer) (ps : List ℕ) (m : FinMap nat_cmp ℕ) (q : ℕ) → get m q ≡ None → get (moments_of es ps m) q ≡ None
moment_missed es ps m q e = get-from_entries nat_cmp_total _ q ∙ missed_mapped (moment_of es ps) (entries m) q (sym (get-entries m q) ∙ e)

-- the moments that contracts see are those of the timers
pub tells_moments : (es : List Timer) (ps : List ℕ) (n : ℕ) (m : FinMap nat_cmp ℕ) → HasPlaces es ps → n ≤ length es → Tells slot_of es n m → Tells at_of es n (moments_of es ps m)
tells_moments es ps n m has within told =
    let at_place : (i : ℕ) → i < n → moment_of es ps (timer_at es i).slot ≡ (timer_at es i).at = λ i h. ap (λ k. (timer_at es k).at) (has.placed i (omega arith)) in
    record {
      each = λ i h. moment_got es ps m _ _ (told.each i h) ∙ ap (λ v. Some v) (at_place i h);
      none_else = λ k x e.
          by_value (get m k)
          (λ none. not_none _ _ (moment_missed es ps m k none) e)
          (λ slot some.
          let p = told.none_else k slot some in
          let is : moment_of es ps slot ≡ x = some_is _ _ (sym (moment_got es ps m k slot some) ∙ e) in
          (p.0, p.1, p.2, sym (at_place p.0 p.1) ∙ ap (moment_of es ps) p.3 ∙ is));
    }

pub first_due : (es : List Timer) (n : ℕ) (m : FinMap nat_cmp ℕ) → IsHeap es n → 0 < n → Tells at_of es n m → FallsDueFirst m (timer_at es 0).at (timer_at es 0).key
first_due es n m heap some told = record {
  is_set = told.each 0 some;
  least = λ other later e.
      let p = told.none_else other later e in
      let first = first_of_all es n heap p.0 p.0 (omega arith) p.1 in
      let bound : (timer_at es 0).at ≤ (timer_at es p.0).at = first.moment in
      let is : (timer_at es p.0).at ≡ later = p.3 in
      omega arith;
  least_key = λ other e.
      let p = told.none_else other (timer_at es 0).at e in
      let first = first_of_all es n heap p.0 p.0 (omega arith) p.1 in
      let at : (timer_at es 0).at ≡ (timer_at es p.0).at = sym p.3 in
      let bound : (timer_at es 0).key ≤ (timer_at es p.0).key = first.key at in
      let is : (timer_at es p.0).key ≡ other = p.2 in
      omega arith;
}

pub none_due : (value : Timer → ℕ) (es : List Timer) (n : ℕ) (m : FinMap nat_cmp ℕ) → n ≡ 0 → Tells value es n m → (key : ℕ) → get m key ≡ None
none_due value es n m none told key = by_value (get m key) (λ e. e) (λ x e. let p = told.none_else key x e in absurd (omega (arith, p.1)))
