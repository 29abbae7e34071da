-- What each call of a set of timers keeps, and what it makes of the moments.
use Rattle.std.proofs.Common.{◌≡◌, ℕ, ◌+◌, ◌-◌, ◌<◌, ◌≤◌, List, length, get_or, set, Option, Some, None, IfSome, IfNone, refl, sym, ap, subst, ◌∙◌, arith}
use Rattle.std.specs.Ordering.{nat_cmp}
use Rattle.std.specs.FinMap.{FinMap, get, insert, remove, empty, get-empty}
use Rattle.timer_set.specs.declared.timer.Timer.{Timer}
use Rattle.timer_set.specs.Order.{timer_at}
use Rattle.timer_set.specs.Heaps.{HasPlaces, IsHeap, IsShuffled, IsWithout, with_moment}
use Rattle.timer_set.specs.Moments.{slot_of, at_of, moments_of, Tells}
use Rattle.timer_set.specs.Timers.{Timers, FallsDueFirst, IsFirst}
use Rattle.timer_set.proofs.Told.{not_none, tells_shuffled, tells_new, tells_changed, tells_kept, tells_without, tells_same, told_alike, tells_moments, only_one, leads, LeadsTo, moment_missed, first_due, none_due}

pub tells_empty : (value : Timer → ℕ) (es : List Timer) (n : ℕ) (m : FinMap nat_cmp ℕ) → n ≡ 0 → m ≡ empty → Tells value es n m
tells_empty value es n m none is = record {
  each = λ i h. absurd (omega arith);
  none_else = λ k x e. not_none _ _ (ap (λ w. get w k) is ∙ get-empty nat_cmp k) e;
}

pub same_timers : (moments : FinMap nat_cmp ℕ) (room : ℕ) (t : Timers) → moments ≡ t.moments → room ≡ t.room → record { moments = moments; room = room } ≡ t
same_timers moments room t e f i = record { moments = e i; room = f i }

pub first_is : (o : Option (ℕ × ℕ)) (es : List Timer) (n : ℕ) (m : FinMap nat_cmp ℕ) → IsHeap es n → Tells at_of es n m → IfNone o (n ≡ 0) → IfSome o (λ f. (0 < n) × (f.0 ≡ (timer_at es 0).at) × (f.1 ≡ (timer_at es 0).key)) → IsFirst m o
first_is None es n m heap told none some = none_due at_of es n m none told
first_is (Some f) es n m heap told none some =
    subst (λ a. FallsDueFirst m a f.1) (sym some.1) (subst (λ k. FallsDueFirst m (timer_at es 0).at k) (sym some.2) (first_due es n m heap some.0 told))

-- the timers before the call, in which each key leads to its timer
module _ (es : List Timer) (ps : List ℕ) (n : ℕ) (m v : FinMap nat_cmp ℕ) (has : HasPlaces es ps) (within : n ≤ length es) (slots : Tells slot_of es n m) (view : moments_of es ps m ≡ v) where
  pub told_moments : Tells at_of es n v
  told_moments = subst (Tells at_of es n) view (tells_moments es ps n m has within slots)

  -- the timers after it
  module _ (fs : List Timer) (qs : List ℕ) (has' : HasPlaces fs qs) where
    pub moments_same : (m' : FinMap nat_cmp ℕ) → n ≤ length fs → ((i : ℕ) → i < n → timer_at fs i ≡ timer_at es i) → m' ≡ m → moments_of fs qs m' ≡ v
    moments_same m' within' alike is =
        told_alike at_of fs n _ _ (tells_moments fs qs n m' has' within' (tells_same slot_of es fs n m' alike (subst (Tells slot_of es n) (sym is) slots))) (tells_same at_of es fs n v alike told_moments)

    module _ (key slot : ℕ) (got : get m key ≡ Some slot) where
      lead : LeadsTo es ps n key slot
      lead = leads es ps n key slot m has within slots got

      module _ (at : ℕ) (mixed : IsShuffled (with_moment es (get_or ps slot 0) at) fs n) where
        pub slots_changed : Tells slot_of fs n m
        slots_changed =
            let in_n : get_or ps slot 0 < n = lead.place_in in
            tells_shuffled slot_of _ fs n m mixed (tells_kept slot_of es n (get_or ps slot 0) m _ (omega arith) refl refl slots)

        pub moments_changed : n ≤ length fs → moments_of fs qs m ≡ insert v key at
        moments_changed within' =
            let in_n : get_or ps slot 0 < n = lead.place_in in
            let only = only_one es ps n (get_or ps slot 0) m has within in_n slots in
            told_alike at_of fs n _ _ (tells_moments fs qs n m has' within' slots_changed)
            (tells_shuffled at_of _ fs n _ mixed (subst (λ k. Tells at_of (with_moment es (get_or ps slot 0) at) n (insert v k at)) lead.key_is (tells_changed at_of es n (get_or ps slot 0) v _ in_n (omega arith) refl only told_moments)))

      module _ (n' : ℕ) (m' : FinMap nat_cmp ℕ) (less : n' + 1 ≡ n) (gone : IsWithout es fs n (get_or ps slot 0)) (is : m' ≡ remove m key) where
        pub slots_without : Tells slot_of fs n' m'
        slots_without =
            let only = only_one es ps n (get_or ps slot 0) m has within lead.place_in slots in
            let last : n - 1 ≡ n' = omega arith in
            subst (Tells slot_of fs n') (sym is) (subst (λ k. Tells slot_of fs k (remove m key)) last (tells_without slot_of es fs n (get_or ps slot 0) m key lead.key_is only gone slots))

        pub moments_without : n' ≤ length fs → moments_of fs qs m' ≡ remove v key
        moments_without within' =
            let only = only_one es ps n (get_or ps slot 0) m has within lead.place_in slots in
            let last : n - 1 ≡ n' = omega arith in
            told_alike at_of fs n' _ _ (tells_moments fs qs n' m' has' within' slots_without)
            (subst (λ k. Tells at_of fs k (remove v key)) last (tells_without at_of es fs n (get_or ps slot 0) v key lead.key_is only gone told_moments))

    module _ (key slot at n' : ℕ) (m' : FinMap nat_cmp ℕ) (missed : get m key ≡ None) (room : n < length es) (more : n' ≡ n + 1) (mixed : IsShuffled (set es n (record { at = at; key = key; slot = slot })) fs (n + 1)) (is : m' ≡ insert m key slot) where
      pub slots_more : Tells slot_of fs n' m'
      slots_more =
          subst (Tells slot_of fs n') (sym is) (subst (λ k. Tells slot_of fs k (insert m key slot)) (sym more) (tells_shuffled slot_of _ fs (n + 1) _ mixed (tells_new slot_of es n m (record { at = at; key = key; slot = slot }) room missed slots)))

      pub moments_more : n' ≤ length fs → moments_of fs qs m' ≡ insert v key at
      moments_more within' =
          let absent : get v key ≡ None = ap (λ w. get w key) (sym view) ∙ moment_missed es ps m key missed in
          told_alike at_of fs n' _ _ (tells_moments fs qs n' m' has' within' slots_more)
          (subst (λ k. Tells at_of fs k (insert v key at)) (sym more) (tells_shuffled at_of _ fs (n + 1) _ mixed (tells_new at_of es n v (record { at = at; key = key; slot = slot }) room absent told_moments)))
