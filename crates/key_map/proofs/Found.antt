-- What a scan of pairs finds, before and after an edit of them.
use Rattle.std.proofs.Common.{◌≡◌, ◌≢◌, ℕ, suc, zero, ◌+◌, ◌-◌, ◌<◌, ◌≤◌, Bool, true, false, cond, eqb, ltb, List, [], ◌∷◌, length, get_or, set, Option, Some, None, is_some, refl, sym, ap, subst, ◌∙◌, inl, inr, arith, if◌then◌else◌}
use Rattle.std.specs.List.{insert, remove}
use Rattle.std.specs.Ordering.{nat_cmp, eq_by_cmp, is_eq}
use Rattle.std.specs.declared.cmp.Ordering.TheVariants.{Less, Equal, Greater}
use Rattle.std.specs.Cmp.{nat_cmp_total}
use Rattle.std.specs.FinMap.{FinMap, find, get, from_entries, get-from_entries, get-insert, get-remove, same_map, nat_cmp-IsAntisymmetric}
use Rattle.std.specs.FinMap as map
use Rattle.std.proofs.lemmas.Bool.{ltb-true, eq-eqb, ne_eqb, lt-ltb, le-ltb, cases_order}
use Rattle.std.proofs.lemmas.List.{get_or_default}
use Rattle.std.proofs.lemmas.List.Edits.{length-insert, get_or-insert_below, get_or-insert_at, get_or-insert_above}
use Rattle.key_map.specs.Entries.{IsFirstFrom, key_at, IsRising, IsAt, IsGap}

pub test_same : (q k : ℕ) → q ≡ k → eq_by_cmp nat_cmp q k ≡ true
test_same q k e = rw (le-ltb q k (omega arith), eq-eqb q k e)

pub test_other : (q k : ℕ) → q ≢ k → eq_by_cmp nat_cmp q k ≡ false
test_other q k differ = elim (ltb q k) as (λ b. is_eq (cond b Less (cond (eqb q k) Equal Greater)) ≡ false) [ true ↦ refl | false ↦ rw (ne_eqb q k differ) ]

-- a test of two keys, and what it says of them
pub by_test : (q k : ℕ) (P : Bool → Type 0) → (q ≡ k → P true) → (q ≢ k → P false) → P (eq_by_cmp nat_cmp q k)
by_test q k P same other =
    elim (eqb q k) as (λ b. eqb q k ≡ b → P (eq_by_cmp nat_cmp q k)) [
      | true ↦ λ e. let h = Rattle.std.proofs.lemmas.Bool.eqb-true q k e in subst P (sym (test_same q k h)) (same h)
      | false ↦ λ e. let h = Rattle.std.proofs.lemmas.Bool.eqb-false q k e in subst P (sym (test_other q k h)) (other h)
    ] refl

pub find_at : (s : List (ℕ × ℕ)) (p key : ℕ) → ((i : ℕ) → i < p → key_at s i < key) → p < length s → key_at s p ≡ key → find nat_cmp key s ≡ Some (get_or s p (0, 0)).1
find_at [] p key below within at = absurd (omega arith)
find_at (e ∷ s) zero key below within at = ap (λ b. cond b (Some e.1) (find nat_cmp key s)) (test_same key e.0 (sym at))
find_at (e ∷ s) (suc p) key below within at =
    let first : e.0 < key = below 0 (omega arith) in
    ap (λ b. cond b (Some e.1) (find nat_cmp key s)) (test_other key e.0 (omega arith)) ∙ find_at s p key (λ i h. below (suc i) (omega arith)) (omega arith) at

pub find_absent : (s : List (ℕ × ℕ)) (key : ℕ) → ((i : ℕ) → i < length s → key_at s i ≢ key) → find nat_cmp key s ≡ None
find_absent [] key absent = refl
find_absent (e ∷ s) key absent =
    ap (λ b. cond b (Some e.1) (find nat_cmp key s)) (test_other key e.0 (λ same. absent 0 (omega arith) (sym same))) ∙ find_absent s key (λ i h. absent (suc i) (omega arith))

again : (b : Bool) (x y z : Option ℕ) → cond b x y ≡ cond b x (cond b z y)
again true x y z = refl
again false x y z = refl

exchanged : (a b : Bool) (x y z : Option ℕ) → (a ≡ true → b ≡ true → ⊥) → cond a x (cond b y z) ≡ cond b y (cond a x z)
exchanged true true x y z apart = absurd (apart refl refl)
exchanged true false x y z apart = refl
exchanged false true x y z apart = refl
exchanged false false x y z apart = refl

apart_tests : (q one other : ℕ) → one ≢ other → eq_by_cmp nat_cmp q one ≡ true → eq_by_cmp nat_cmp q other ≡ true → ⊥
apart_tests q one other differ =
    by_test q one (λ b. b ≡ true → eq_by_cmp nat_cmp q other ≡ true → ⊥)
    (λ is_one _. by_test q other (λ b. b ≡ true → ⊥) (λ is_other _. differ (sym is_one ∙ is_other)) (λ _ h. cc)) (λ _ h. cc)

pub find-set : (s : List (ℕ × ℕ)) (p key v q : ℕ) → p < length s → key_at s p ≡ key → ((i : ℕ) → i < p → key_at s i ≢ key) → find nat_cmp q (set s p (key, v)) ≡ cond (eq_by_cmp nat_cmp q key) (Some v) (find nat_cmp q s)
find-set [] p key v q within at before = absurd (omega arith)
find-set (e ∷ s) zero key v q within at before =
    let test : eq_by_cmp nat_cmp q e.0 ≡ eq_by_cmp nat_cmp q key = ap (eq_by_cmp nat_cmp q) at in
    again (eq_by_cmp nat_cmp q key) (Some v) (find nat_cmp q s) (Some e.1) ∙ ap (λ b. cond (eq_by_cmp nat_cmp q key) (Some v) (cond b (Some e.1) (find nat_cmp q s))) (sym test)
find-set (e ∷ s) (suc p) key v q within at before =
    ap (cond (eq_by_cmp nat_cmp q e.0) (Some e.1)) (find-set s p key v q (omega arith) at (λ i h. before (suc i) (omega arith)))
    ∙ exchanged (eq_by_cmp nat_cmp q e.0) (eq_by_cmp nat_cmp q key) (Some e.1) (Some v) (find nat_cmp q s) (apart_tests q e.0 key (before 0 (omega arith)))

pub find-insert : (s : List (ℕ × ℕ)) (p key v q : ℕ) → p ≤ length s → ((i : ℕ) → i < p → key_at s i ≢ key) → find nat_cmp q (insert s p (key, v)) ≡ cond (eq_by_cmp nat_cmp q key) (Some v) (find nat_cmp q s)
find-insert [] zero key v q within before = refl
find-insert [] (suc p) key v q within before = absurd (omega arith)
find-insert (e ∷ s) zero key v q within before = refl
find-insert (e ∷ s) (suc p) key v q within before =
    ap (cond (eq_by_cmp nat_cmp q e.0) (Some e.1)) (find-insert s p key v q (omega arith) (λ i h. before (suc i) (omega arith)))
    ∙ exchanged (eq_by_cmp nat_cmp q e.0) (eq_by_cmp nat_cmp q key) (Some e.1) (Some v) (find nat_cmp q s) (apart_tests q e.0 key (before 0 (omega arith)))

pub find-remove : (s : List (ℕ × ℕ)) (p key q : ℕ) → p < length s → key_at s p ≡ key → ((i : ℕ) → i < length s → i ≢ p → key_at s i ≢ key) → find nat_cmp q (remove s p) ≡ cond (eq_by_cmp nat_cmp q key) None (find nat_cmp q s)
find-remove [] p key q within at others = absurd (omega arith)
find-remove (e ∷ s) zero key q within at others =
    let absent : find nat_cmp key s ≡ None = find_absent s key (λ i h. others (suc i) (omega arith) (omega arith)) in
    by_test q key (λ b. find nat_cmp q s ≡ cond b None (cond (eq_by_cmp nat_cmp q e.0) (Some e.1) (find nat_cmp q s)))
    (λ same. ap (λ k. find nat_cmp k s) same ∙ absent)
    (λ differ. ap (λ b. cond b (Some e.1) (find nat_cmp q s)) (sym (test_other q e.0 (λ same. differ (same ∙ at)))))
find-remove (e ∷ s) (suc p) key q within at others =
    ap (cond (eq_by_cmp nat_cmp q e.0) (Some e.1)) (find-remove s p key q (omega arith) at (λ i h differ. others (suc i) (omega arith) (omega arith)))
    ∙ exchanged (eq_by_cmp nat_cmp q e.0) (eq_by_cmp nat_cmp q key) (Some e.1) None (find nat_cmp q s) (apart_tests q e.0 key (others 0 (omega arith) (omega arith)))

-- the map of the pairs finds what a scan of them finds
pub get_scanned : (m : FinMap nat_cmp ℕ) (s : List (ℕ × ℕ)) (q : ℕ) → from_entries s ≡ m → get m q ≡ find nat_cmp q s
get_scanned m s q e = ap (λ m. get m q) (sym e) ∙ get-from_entries nat_cmp_total s q

pub same_as_insert : (m : FinMap nat_cmp ℕ) (s t : List (ℕ × ℕ)) (key v : ℕ) → from_entries s ≡ m → ((q : ℕ) → find nat_cmp q t ≡ cond (eq_by_cmp nat_cmp q key) (Some v) (find nat_cmp q s)) → from_entries t ≡ map.insert m key v
same_as_insert m s t key v e scan =
    same_map nat_cmp_total nat_cmp-IsAntisymmetric _ _ (λ q. get-from_entries nat_cmp_total t q ∙ scan q ∙ ap (cond (eq_by_cmp nat_cmp q key) (Some v)) (sym (get_scanned m s q e)) ∙ sym (get-insert nat_cmp_total m key v q))

pub same_as_remove : (m : FinMap nat_cmp ℕ) (s t : List (ℕ × ℕ)) (key : ℕ) → from_entries s ≡ m → ((q : ℕ) → find nat_cmp q t ≡ cond (eq_by_cmp nat_cmp q key) None (find nat_cmp q s)) → from_entries t ≡ map.remove m key
same_as_remove m s t key e scan =
    same_map nat_cmp_total nat_cmp-IsAntisymmetric _ _ (λ q. get-from_entries nat_cmp_total t q ∙ scan q ∙ ap (cond (eq_by_cmp nat_cmp q key) None) (sym (get_scanned m s q e)) ∙ sym (get-remove nat_cmp_total m key q))

pub same_without : (m : FinMap nat_cmp ℕ) (key : ℕ) → get m key ≡ None → m ≡ map.remove m key
same_without m key none =
    same_map nat_cmp_total nat_cmp-IsAntisymmetric _ _
    (λ q. by_test q key (λ b. get m q ≡ cond b None (get m q)) (λ same. ap (get m) same ∙ none) (λ _. refl) ∙ sym (get-remove nat_cmp_total m key q))

pub others_at : (s : List (ℕ × ℕ)) (key p : ℕ) → IsAt s key p → (i : ℕ) → i < length s → i ≢ p → key_at s i ≢ key
others_at s key p at i in_list differ same =
    let here : key_at s p ≡ key = at.found in
    let place : p < length s = at.within in
    elim (cases_order i p) [
      | inl e ↦ differ e
      | inr (inl less) ↦ let h = at.rising i p less place in absurd (omega arith)
      | inr (inr more) ↦ let h = at.rising p i more in_list in absurd (omega arith)
    ]

pub absent_at : (s : List (ℕ × ℕ)) (key p : ℕ) → IsGap s key p → (i : ℕ) → i < length s → key_at s i ≢ key
absent_at s key p gap i in_list same =
    elim (cases_order i p) [
      | inl e ↦ let h = gap.above i (omega arith) in_list in absurd (omega arith)
      | inr (inl less) ↦ let h = gap.below i less in absurd (omega arith)
      | inr (inr more) ↦ let h = gap.above i (omega arith) in_list in absurd (omega arith)
    ]

pub got_at : (m : FinMap nat_cmp ℕ) (s : List (ℕ × ℕ)) (key p : ℕ) (x : ℕ × ℕ) → from_entries s ≡ m → IsAt s key p → x ≡ get_or s p x → get m key ≡ Some x.1
got_at m s key p x e at read =
    get_scanned m s key e
    ∙ find_at s p key (λ i h. subst (λ k. key_at s i < k) at.found (at.rising i p h at.within)) at.within at.found
    ∙ ap (λ (y : ℕ × ℕ). Some y.1) (get_or_default s p (0, 0) x at.within ∙ sym read)

pub got_none : (m : FinMap nat_cmp ℕ) (s : List (ℕ × ℕ)) (key p : ℕ) → from_entries s ≡ m → IsGap s key p → get m key ≡ None
got_none m s key p e gap = get_scanned m s key e ∙ find_absent s key (absent_at s key p gap)

pub put_at : (m : FinMap nat_cmp ℕ) (s : List (ℕ × ℕ)) (key p v : ℕ) (x : ℕ × ℕ) → from_entries s ≡ m → IsAt s key p → x ≡ get_or s p x → from_entries (set s p (x.0, v)) ≡ map.insert m key v
put_at m s key p v x e at read =
    let place : p < length s = at.within in
    let same : x.0 ≡ key = ap (λ (y : ℕ × ℕ). y.0) (read ∙ get_or_default s p x (0, 0) place) ∙ at.found in
    ap (λ k. from_entries (set s p (k, v))) same
    ∙ same_as_insert m s (set s p (key, v)) key v e (λ q. find-set s p key v q place at.found (λ i h. others_at s key p at i (omega arith) (omega arith)))

pub put_gap : (m : FinMap nat_cmp ℕ) (s : List (ℕ × ℕ)) (key p v : ℕ) → from_entries s ≡ m → IsGap s key p → from_entries (insert s p (key, v)) ≡ map.insert m key v
put_gap m s key p v e gap =
    let bound : p ≤ length s = gap.within in
    same_as_insert m s (insert s p (key, v)) key v e (λ q. find-insert s p key v q bound (λ i h. absent_at s key p gap i (omega arith)))

pub removed_at : (m : FinMap nat_cmp ℕ) (s : List (ℕ × ℕ)) (key p : ℕ) → from_entries s ≡ m → IsAt s key p → from_entries (remove s p) ≡ map.remove m key
removed_at m s key p e at = same_as_remove m s (remove s p) key e (λ q. find-remove s p key q at.within at.found (others_at s key p at))

pub removed_gap : (m : FinMap nat_cmp ℕ) (s : List (ℕ × ℕ)) (key p : ℕ) → from_entries s ≡ m → IsGap s key p → m ≡ map.remove m key
removed_gap m s key p e gap = same_without m key (got_none m s key p e gap)

key_below : (s : List (ℕ × ℕ)) (p : ℕ) (x : ℕ × ℕ) (i : ℕ) → p ≤ length s → i < p → key_at (insert s p x) i ≡ key_at s i
key_below s p x i bound less = ap (λ (y : ℕ × ℕ). y.0) (get_or-insert_below s p x (0, 0) i less bound)

key_here : (s : List (ℕ × ℕ)) (p : ℕ) (x : ℕ × ℕ) (i : ℕ) → p ≤ length s → i ≡ p → key_at (insert s p x) i ≡ x.0
key_here s p x i bound e = ap (key_at (insert s p x)) e ∙ ap (λ (y : ℕ × ℕ). y.0) (get_or-insert_at s p x (0, 0) bound)

key_above : (s : List (ℕ × ℕ)) (p : ℕ) (x : ℕ × ℕ) (i : ℕ) → p ≤ length s → p < i → key_at (insert s p x) i ≡ key_at s (i - 1)
key_above s p x i bound more =
    let later : i ≡ (i - 1) + 1 = omega arith in
    ap (key_at (insert s p x)) later ∙ ap (λ (y : ℕ × ℕ). y.0) (get_or-insert_above s p x (0, 0) (i - 1) (omega arith) bound)

pub rising_insert : (s : List (ℕ × ℕ)) (key v p : ℕ) → IsGap s key p → IsRising (insert s p (key, v))
rising_insert s key v p gap i j less within =
    let bound : p ≤ length s = gap.within in
    let longer : length (insert s p (key, v)) ≡ length s + 1 = length-insert s p (key, v) bound in
    let t : List (ℕ × ℕ) = insert s p (key, v) in
    elim (cases_order j p) [
      | inl e ↦
          let at_j = key_here s p (key, v) j bound e in
          let at_i = key_below s p (key, v) i bound (omega arith) in
          let h = gap.below i (omega arith) in
          omega arith
      | inr (inl before) ↦
          let at_j = key_below s p (key, v) j bound before in
          let at_i = key_below s p (key, v) i bound (omega arith) in
          let h = gap.rising i j less (omega arith) in
          omega arith
      | inr (inr after) ↦
          let at_j = key_above s p (key, v) j bound after in
          elim (cases_order i p) [
            | inl e ↦
                let at_i = key_here s p (key, v) i bound e in
                let h = gap.above (j - 1) (omega arith) (omega arith) in
                omega arith
            | inr (inl before) ↦
                let at_i = key_below s p (key, v) i bound before in
                let h = gap.rising i (j - 1) (omega arith) (omega arith) in
                omega arith
            | inr (inr later) ↦
                let at_i = key_above s p (key, v) i bound later in
                let h = gap.rising (i - 1) (j - 1) (omega arith) (omega arith) in
                omega arith
          ]
    ]

pub chosen_some : (o : Option ℕ) (x : ℕ) (a b : ℕ) → o ≡ Some x → (if is_some o then a else b) ≡ a
chosen_some o x a b e = ap (λ (o : Option ℕ). if is_some o then a else b) e

pub chosen_none : (o : Option ℕ) (a b : ℕ) → o ≡ None → (if is_some o then a else b) ≡ b
chosen_none o a b e = ap (λ (o : Option ℕ). if is_some o then a else b) e

-- ---- the first key from some key on

-- no key stands there that lies between two neighbours
pub absent_between : (m : FinMap nat_cmp ℕ) (s : List (ℕ × ℕ)) (p key other : ℕ) → from_entries s ≡ m → ((i : ℕ) → i < p → key_at s i < key) → key ≤ other → ((i : ℕ) → p ≤ i → i < length s → other < key_at s i) → get m other ≡ None
absent_between m s p key other is below from above =
    get_scanned m s other is ∙ find_absent s other (λ i h same. elim (cases_order i p) [
      | inl e ↦ let a = above i (omega (arith, e)) h in omega (arith, a, same)
      | inr (inl less) ↦ let b = below i less in omega (arith, b, same, from)
      | inr (inr more) ↦ let a = above i (omega (arith, more)) h in omega (arith, a, same)
    ])

pub none_from : (m : FinMap nat_cmp ℕ) (s : List (ℕ × ℕ)) (p key : ℕ) → from_entries s ≡ m → ((i : ℕ) → i < p → key_at s i < key) → length s ≤ p → IsFirstFrom m key None
none_from m s p key is below past other from = absent_between m s p key other is below from (λ i l h. absurd (omega (arith, l, h, past)))

pub first_at : (m : FinMap nat_cmp ℕ) (s : List (ℕ × ℕ)) (p key : ℕ) (x : ℕ × ℕ) → from_entries s ≡ m → IsRising s → p < length s → x ≡ get_or s p x → ((i : ℕ) → i < p → key_at s i < key) → ((i : ℕ) → p ≤ i → i < length s → key ≤ key_at s i) → IsFirstFrom m key (Some x.0)
first_at m s p key x is rising within at below above =
    let here : key_at s p ≡ x.0 = ap (λ (y : ℕ × ℕ). y.0) (get_or_default s p (0, 0) x within ∙ sym at) in
    let found = got_at m s x.0 p x is (record { rising = rising; within = within; found = here }) at in
    let lowest = above p (omega arith) within in (
      omega (arith, lowest, here),
      ap is_some found,
      λ other from before. absent_between m s p key other is below from (λ i l h. elim (cases_order i p) [
        | inl e ↦ let same = ap (key_at s) e in omega (arith, same, here, before)
        | inr (inl less) ↦ absurd (omega (arith, l, less))
        | inr (inr more) ↦ let r = rising p i more h in omega (arith, r, here, before)
      ]),
    )
