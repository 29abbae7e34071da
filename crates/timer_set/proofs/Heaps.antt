-- What a step of a heap keeps.
use Rattle.std.proofs.Common.{◌≡◌, ◌≢◌, ℕ, suc, zero, ◌+◌, ◌-◌, ◌/◌, ◌<◌, ◌≤◌, List, [], ◌∷◌, ◌++◌, length, get_or, set, refl, sym, ap, subst, ◌∙◌, inl, inr, arith, get_or-set_other, get_or-set_same}
use Rattle.std.specs.List.{SwappedAt}
use Rattle.std.proofs.lemmas.Bool.{cases_eq}
use Rattle.std.proofs.Math.ListN.{get_or-append}
use Rattle.std.proofs.lemmas.List.{length-set, length-append, get_or_at, get_or_default}
use Rattle.timer_set.specs.declared.timer.Timer.{Timer}
use Rattle.timer_set.specs.Order.{timer_at, IsNoLater}
use Rattle.timer_set.specs.Heaps.{HasPlaces, parent, IsHeap, IsHeapBut, IsUnder, IsFirstChild, IsShuffled, IsWithout}

abbrev pub no_timer : Timer
no_timer = record { at = 0; key = 0; slot = 0 }

-- at one place or at another
pub by_place : {C : Type 0} (i j : ℕ) → (i ≡ j → C) → (i ≢ j → C) → C
by_place {C} i j same other = elim (cases_eq i j) as (λ _. C) [ inl e ↦ same e | inr u ↦ other u ]

moved : (a b x y : Timer) → a ≡ x → b ≡ y → IsNoLater x y → IsNoLater a b
moved a b x y p q h = subst (λ t. IsNoLater t b) (sym p) (subst (λ t. IsNoLater x t) (sym q) h)

chain : (a b c : Timer) → IsNoLater a b → IsNoLater b c → IsNoLater a c
chain a b c h k =
    let first : a.at ≤ b.at = h.moment in
    let second : b.at ≤ c.at = k.moment in
    record {
      moment = omega arith;
      key = λ e.
          let one : a.key ≤ b.key = h.key (omega arith) in
          let two : b.key ≤ c.key = k.key (omega arith) in
          omega arith;
    }

-- what the code read at a place
pub read : (es : List Timer) (i : ℕ) (x : Timer) → i < length es → x ≡ get_or es i x → x ≡ timer_at es i
read es i x within e = e ∙ get_or_default es i x no_timer within

pub ordered_at : (es : List Timer) (i j : ℕ) (x y : Timer) → i < length es → j < length es → x ≡ get_or es i x → y ≡ get_or es j y → IsNoLater x y → IsNoLater (timer_at es i) (timer_at es j)
ordered_at es i j x y in_i in_j at_i at_j h = moved _ _ _ _ (sym (read es i x in_i at_i)) (sym (read es j y in_j at_j)) h

-- a timer that is due before the one above it changes places with that
pub risen : (es fs : List Timer) (n p q : ℕ) → 0 < p → p < n → q ≡ parent p → SwappedAt es fs p q → IsNoLater (timer_at es p) (timer_at es q) → IsHeapBut es n p → IsHeapBut fs n q
risen es fs n p q pos within up s less but = record {
  apart = λ j lo hi no up_no.
      by_place j p (λ e. absurd (up_no (ap parent e ∙ sym up)))
      (λ u. by_place (parent j) p
      (λ e. moved _ _ _ _ (ap (timer_at fs) e ∙ s.0 no_timer ∙ ap (timer_at es) up) (s.2 j no_timer u no) (but.across j pos lo hi e))
      (λ v. moved _ _ _ _ (s.2 (parent j) no_timer v up_no) (s.2 j no_timer u no) (but.apart j lo hi u v)));
  across = λ j above lo hi e.
      let over_p : parent q ≢ p = omega arith in
      let over_q : parent q ≢ q = omega arith in
      let q_p : q ≢ p = omega arith in
      let q_n : q < n = omega arith in
      let top : IsNoLater (timer_at es (parent q)) (timer_at es q) = but.apart q above q_n q_p over_p in
      let same : timer_at fs (parent q) ≡ timer_at es (parent q) = s.2 (parent q) no_timer over_p over_q in
      by_place j p
      (λ at. moved _ _ _ _ same (ap (timer_at fs) at ∙ s.0 no_timer) top)
      (λ u.
      let j_q : j ≢ q = omega arith in
      let up_p : parent j ≢ p = omega arith in
      chain _ _ _ (moved _ _ _ _ same refl top)
      (moved _ _ _ _ (ap (timer_at es) (sym e)) (s.2 j no_timer u j_q) (but.apart j lo hi u up_p)));
}

-- a timer that is due after the first one below it changes places with that
pub sunk : (es fs : List Timer) (n p c : ℕ) → p < n → IsFirstChild es n p c → SwappedAt es fs p c → IsNoLater (timer_at es c) (timer_at es p) → IsHeapBut es n p → IsHeapBut fs n c
sunk es fs n p c within fc s less but =
    let c_pos : 0 < c = fc.below in
    let c_n : c < n = fc.within in
    let up : parent c ≡ p = fc.parent_is in
    record {
      apart = λ j lo hi no up_no.
          by_place j p
          (λ e.
          let out : parent j ≢ p = omega arith in
          moved _ _ _ _ (s.2 (parent j) no_timer out up_no ∙ ap (λ k. timer_at es (parent k)) e) (ap (timer_at fs) e ∙ s.0 no_timer) (but.across c (omega arith) c_pos c_n up))
          (λ u. by_place (parent j) p
          (λ e. moved _ _ _ _ (ap (timer_at fs) e ∙ s.0 no_timer) (s.2 j no_timer u no) (fc.first j lo hi e))
          (λ v. moved _ _ _ _ (s.2 (parent j) no_timer v up_no) (s.2 j no_timer u no) (but.apart j lo hi u v)));
      across = λ j _ lo hi e.
          let j_p : j ≢ p = omega arith in
          let j_c : j ≢ c = omega arith in
          let up_p : parent j ≢ p = omega arith in
          moved _ _ _ _ (ap (timer_at fs) up ∙ s.0 no_timer ∙ ap (timer_at es) (sym e)) (s.2 j no_timer j_p j_c) (but.apart j lo hi j_p up_p);
    }

pub sunk_under : (es fs : List Timer) (n p c : ℕ) → IsFirstChild es n p c → SwappedAt es fs p c → IsNoLater (timer_at es c) (timer_at es p) → IsUnder fs c
sunk_under es fs n p c fc s less pos = moved _ _ _ _ (ap (timer_at fs) fc.parent_is ∙ s.0 no_timer) (s.1 no_timer) less

-- the hole closes where its timer stands in order
pub closed : (es : List Timer) (n p : ℕ) → IsHeapBut es n p → IsUnder es p → ((j : ℕ) → 0 < j → j < n → parent j ≡ p → IsNoLater (timer_at es p) (timer_at es j)) → IsHeap es n
closed es n p but under over j lo hi =
    by_place j p
    (λ e. moved _ _ _ _ (ap (λ k. timer_at es (parent k)) e) (ap (timer_at es) e) (under (subst (λ k. 0 < k) e lo)))
    (λ u. by_place (parent j) p
    (λ e. moved _ _ _ _ (ap (timer_at es) e) refl (over j lo hi e))
    (λ v. but.apart j lo hi u v))

pub closed_at_a_leaf : (es : List Timer) (n p : ℕ) → n / 2 ≤ p → IsHeapBut es n p → IsUnder es p → IsHeap es n
closed_at_a_leaf es n p leaf but under = closed es n p but under (λ j lo hi e. absurd (omega arith))

pub closed_above : (es : List Timer) (n p c : ℕ) → IsFirstChild es n p c → IsNoLater (timer_at es p) (timer_at es c) → IsHeapBut es n p → IsUnder es p → IsHeap es n
closed_above es n p c fc less but under = closed es n p but under (λ j lo hi e. chain _ _ _ less (fc.first j lo hi e))

-- a heap with another timer at one place
pub heap_but : (es fs : List Timer) (n p : ℕ) → IsHeap es n → ((j : ℕ) → j ≢ p → timer_at fs j ≡ timer_at es j) → IsHeapBut fs n p
heap_but es fs n p heap others = record {
  apart = λ j lo hi u v. moved _ _ _ _ (others (parent j) v) (others j u) (heap j lo hi);
  across = λ j pos lo hi e.
      let under : 0 < parent j = omega arith in
      let out : parent p ≢ p = omega arith in
      let off : j ≢ p = omega arith in
      let before : parent j < n = omega arith in
      let top : IsNoLater (timer_at es (parent p)) (timer_at es (parent j)) = moved _ _ _ _ (ap (λ k. timer_at es (parent k)) (sym e)) refl (heap (parent j) under before) in
      moved _ _ _ _ (others (parent p) out) (others j off) (chain _ _ _ top (heap j lo hi));
}

pub fewer : (es : List Timer) (n m : ℕ) → m ≤ n → IsHeap es n → IsHeap es m
fewer es n m less heap j lo hi = heap j lo (omega arith)

-- one more timer, in order or not
pub heap_and_one : (es fs : List Timer) (n : ℕ) → IsHeap es n → ((j : ℕ) → j ≢ n → timer_at fs j ≡ timer_at es j) → IsHeapBut fs (n + 1) n
heap_and_one es fs n heap others = record {
  apart = λ j lo hi u v. moved _ _ _ _ (others (parent j) v) (others j u) (heap j lo (omega arith));
  across = λ j pos lo hi e. absurd (omega arith);
}

-- the last timer takes the place of another
pub heap_less_one : (es fs : List Timer) (n p last : ℕ) → n ≡ last + 1 → IsHeap es n → SwappedAt es fs p last → IsHeapBut fs last p
heap_less_one es fs n p last is heap s = record {
  apart = λ j lo hi u v.
      let at : j ≢ last = omega arith in
      let above : parent j ≢ last = omega arith in
      moved _ _ _ _ (s.2 (parent j) no_timer v above) (s.2 j no_timer u at) (heap j lo (omega arith));
  across = λ j pos lo hi e.
      let under : 0 < parent j = omega arith in
      let out : parent p ≢ p = omega arith in
      let out_last : parent p ≢ last = omega arith in
      let off : j ≢ p = omega arith in
      let off_last : j ≢ last = omega arith in
      let before : parent j < n = omega arith in
      let top : IsNoLater (timer_at es (parent p)) (timer_at es (parent j)) = moved _ _ _ _ (ap (λ k. timer_at es (parent k)) (sym e)) refl (heap (parent j) under before) in
      moved _ _ _ _ (s.2 (parent p) no_timer out out_last) (s.2 j no_timer off off_last) (chain _ _ _ top (heap j lo (omega arith)));
}

-- the first timer of a heap
pub first_of_all : (es : List Timer) (n : ℕ) → IsHeap es n → (fuel j : ℕ) → j ≤ fuel → j < n → IsNoLater (timer_at es 0) (timer_at es j)
first_of_all es n heap zero j le lt = moved _ _ _ _ refl (let e : j ≡ 0 = omega arith in ap (timer_at es) e) (record { moment = omega arith; key = λ _. omega arith })
first_of_all es n heap (suc fuel) j le lt =
    by_place j 0
    (λ e. moved _ _ _ _ refl (ap (timer_at es) e) (record { moment = omega arith; key = λ _. omega arith }))
    (λ u. chain _ _ _ (first_of_all es n heap fuel (parent j) (omega arith) (omega arith)) (heap j (omega arith) lt))

pub shuffled_none : (es : List Timer) (n : ℕ) → IsShuffled es es n
shuffled_none es n = record { kept = λ i h. (i, h, refl); came = λ i h. (i, h, refl) }

pub shuffled_twice : (es fs gs : List Timer) (n : ℕ) → IsShuffled es fs n → IsShuffled fs gs n → IsShuffled es gs n
shuffled_twice es fs gs n one two = record {
  kept = λ i h. let a = one.kept i h in let b = two.kept a.0 a.1 in (b.0, b.1, b.2 ∙ a.2);
  came = λ i h. let a = two.came i h in let b = one.came a.0 a.1 in (b.0, b.1, a.2 ∙ b.2);
}

pub shuffled_swap : (es fs : List Timer) (n a b : ℕ) → a < n → b < n → SwappedAt es fs a b → IsShuffled es fs n
shuffled_swap es fs n a b in_a in_b s = record {
  kept = λ i h.
      by_place i a
      (λ e. (b, in_b, s.1 no_timer ∙ ap (timer_at es) (sym e)))
      (λ u. by_place i b
      (λ e. (a, in_a, s.0 no_timer ∙ ap (timer_at es) (sym e)))
      (λ v. (i, h, s.2 i no_timer u v)));
  came = λ i h.
      by_place i a
      (λ e. (b, in_b, ap (timer_at fs) e ∙ s.0 no_timer))
      (λ u. by_place i b
      (λ e. (a, in_a, ap (timer_at fs) e ∙ s.1 no_timer))
      (λ v. (i, h, s.2 i no_timer u v)));
}

-- two timers that stand apart have slots of their own
pub slots_apart : (es : List Timer) (ps : List ℕ) (i j : ℕ) → HasPlaces es ps → i < length es → j < length es → i ≢ j → (timer_at es i).slot ≢ (timer_at es j).slot
slots_apart es ps i j has in_i in_j apart same = apart (sym (has.placed i in_i) ∙ ap (λ k. get_or ps k 0) same ∙ has.placed j in_j)

pub exchanged_places : (es fs : List Timer) (ps : List ℕ) (a b one two : ℕ) → HasPlaces es ps → a < length es → b < length es → a ≢ b → length fs ≡ length es → SwappedAt es fs a b → one ≡ (timer_at fs a).slot → two ≡ (timer_at fs b).slot → HasPlaces fs (set (set ps one a) two b)
exchanged_places es fs ps a b one two has in_a in_b apart len s one_is two_is =
    let one_was : one ≡ (timer_at es b).slot = one_is ∙ ap (λ (t : Timer). t.slot) (s.0 no_timer) in
    let two_was : two ≡ (timer_at es a).slot = two_is ∙ ap (λ (t : Timer). t.slot) (s.1 no_timer) in
    let one_in : one < length ps = subst (λ k. k < length ps) (sym one_was) (has.within b in_b) in
    let two_in : two < length ps = subst (λ k. k < length ps) (sym two_was) (has.within a in_a) in
    let first_len : length (set ps one a) ≡ length ps = length-set ps one a in
    let second_len : length (set (set ps one a) two b) ≡ length (set ps one a) = length-set (set ps one a) two b in
    let one_at : get_or ps one 0 ≡ b = ap (λ k. get_or ps k 0) one_was ∙ has.placed b in_b in
    let two_at : get_or ps two 0 ≡ a = ap (λ k. get_or ps k 0) two_was ∙ has.placed a in_a in
    let one_two : one ≢ two = λ e. apart (sym two_at ∙ ap (λ k. get_or ps k 0) (sym e) ∙ one_at) in
    let two_in_set : two < length (set ps one a) = omega arith in
    record {
      within = λ i h.
          let was = (shuffled_swap es fs (length es) a b in_a in_b s).came i (omega arith) in
          let same : (timer_at fs i).slot ≡ (timer_at es was.0).slot = ap (λ (t : Timer). t.slot) was.2 in
          let before : (timer_at es was.0).slot < length ps = has.within was.0 was.1 in
          omega arith;
      placed = λ i h.
          by_place i b
          (λ e. ap (λ k. get_or (set (set ps one a) two b) k 0) (ap (λ k. (timer_at fs k).slot) e ∙ sym two_is) ∙ get_or-set_same (set ps one a) two b 0 two_in_set ∙ sym e)
          (λ u. by_place i a
          (λ e.
          ap (λ k. get_or (set (set ps one a) two b) k 0) (ap (λ k. (timer_at fs k).slot) e ∙ sym one_is)
          ∙ get_or-set_other (set ps one a) two one b 0 one_two
          ∙ get_or-set_same ps one a 0 one_in
          ∙ sym e)
          (λ v.
          let same : (timer_at fs i).slot ≡ (timer_at es i).slot = ap (λ (t : Timer). t.slot) (s.2 i no_timer v u) in
          let at : get_or ps (timer_at es i).slot 0 ≡ i = has.placed i (omega arith) in
          let not_two : (timer_at es i).slot ≢ two = λ e. v (sym at ∙ ap (λ k. get_or ps k 0) e ∙ two_at) in
          let not_one : (timer_at es i).slot ≢ one = λ e. u (sym at ∙ ap (λ k. get_or ps k 0) e ∙ one_at) in
          ap (λ k. get_or (set (set ps one a) two b) k 0) same
          ∙ get_or-set_other (set ps one a) two (timer_at es i).slot b 0 not_two
          ∙ get_or-set_other ps one (timer_at es i).slot a 0 not_one
          ∙ at));
    }

-- a timer that keeps its slot is found where it was
pub edited_places : (es : List Timer) (ps : List ℕ) (p : ℕ) (t : Timer) → p < length es → t.slot ≡ (timer_at es p).slot → HasPlaces es ps → HasPlaces (set es p t) ps
edited_places es ps p t in_p kept has =
    let same : (i : ℕ) → (timer_at (set es p t) i).slot ≡ (timer_at es i).slot = λ i.
    by_place i p
    (λ e. ap (λ k. (timer_at (set es p t) k).slot) e ∙ ap (λ (x : Timer). x.slot) (get_or-set_same es p t no_timer in_p) ∙ kept ∙ ap (λ k. (timer_at es k).slot) (sym e))
    (λ u. ap (λ (x : Timer). x.slot) (get_or-set_other es p i t no_timer u)) in
    let len : length (set es p t) ≡ length es = length-set es p t in
    record {
      within = λ i h. subst (λ k. k < length ps) (sym (same i)) (has.within i (omega arith));
      placed = λ i h. ap (λ k. get_or ps k 0) (same i) ∙ has.placed i (omega arith);
    }

-- one more timer behind the others, with a slot of its own
pub added_places : (es : List Timer) (ps : List ℕ) (t : Timer) → t.slot ≡ length ps → HasPlaces es ps → HasPlaces (es ++ t ∷ []) (ps ++ length es ∷ [])
added_places es ps t slot has =
    let len : length (es ++ t ∷ []) ≡ length es + 1 = length-append es (t ∷ []) in
    let len_ps : length (ps ++ length es ∷ []) ≡ length ps + 1 = length-append ps (length es ∷ []) in
    record {
      within = λ i h.
          by_place i (length es)
          (λ e. let is : (timer_at (es ++ t ∷ []) i).slot ≡ t.slot = ap (λ k. (timer_at (es ++ t ∷ []) k).slot) e ∙ ap (λ (x : Timer). x.slot) (get_or_at es t [] no_timer (length es) refl) in omega arith)
          (λ u.
          let lt : i < length es = omega arith in
          let is : (timer_at (es ++ t ∷ []) i).slot ≡ (timer_at es i).slot = ap (λ (x : Timer). x.slot) (get_or-append es (t ∷ []) no_timer i lt) in
          let was : (timer_at es i).slot < length ps = has.within i lt in
          omega arith);
      placed = λ i h.
          by_place i (length es)
          (λ e.
          let is : (timer_at (es ++ t ∷ []) i).slot ≡ length ps = ap (λ k. (timer_at (es ++ t ∷ []) k).slot) e ∙ ap (λ (x : Timer). x.slot) (get_or_at es t [] no_timer (length es) refl) ∙ slot in
          ap (λ k. get_or (ps ++ length es ∷ []) k 0) is ∙ get_or_at ps (length es) [] 0 (length ps) refl ∙ sym e)
          (λ u.
          let lt : i < length es = omega arith in
          let is : (timer_at (es ++ t ∷ []) i).slot ≡ (timer_at es i).slot = ap (λ (x : Timer). x.slot) (get_or-append es (t ∷ []) no_timer i lt) in
          let was : (timer_at es i).slot < length ps = has.within i lt in
          ap (λ k. get_or (ps ++ length es ∷ []) k 0) is ∙ get_or-append ps (length es ∷ []) 0 (timer_at es i).slot was ∙ has.placed i lt);
    }

-- the last timer takes the place of the one that goes
pub without_swapped : (es fs gs : List Timer) (n p last : ℕ) → n ≡ last + 1 → p < last → SwappedAt es fs p last → IsShuffled fs gs last → IsWithout es gs n p
without_swapped es fs gs n p last is in_p s mixed = record {
  kept = λ i h u.
      by_place i last
      (λ e. let k = mixed.kept p in_p in let b : k.0 < n - 1 = omega (arith, k.1) in (k.0, b, k.2 ∙ s.0 no_timer ∙ ap (timer_at es) (sym e)))
      (λ v. let lt : i < last = omega arith in let k = mixed.kept i lt in let b : k.0 < n - 1 = omega (arith, k.1) in (k.0, b, k.2 ∙ s.2 i no_timer u v));
  came = λ i h.
      let lt : i < last = omega arith in
      let w = mixed.came i lt in
      let w_lt : w.0 < last = w.1 in
      by_place w.0 p
      (λ e. let a : last < n = omega arith in let b : last ≢ p = omega arith in (last, a, b, w.2 ∙ ap (timer_at fs) e ∙ s.0 no_timer))
      (λ u. let a : w.0 < n = omega arith in let v : w.0 ≢ last = omega arith in (w.0, a, u, w.2 ∙ s.2 w.0 no_timer u v));
}

pub without_last : (es : List Timer) (n p : ℕ) → n ≡ p + 1 → IsWithout es es n p
without_last es n p is = record {
  kept = λ i h u. let b : i < n - 1 = omega arith in (i, b, refl);
  came = λ i h. let a : i < n = omega arith in let b : i ≢ p = omega arith in (i, a, b, refl);
}
