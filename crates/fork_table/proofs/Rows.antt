-- What the table holds after a session came, went, or was changed.
use Rattle.std.proofs.Common.{◌≡◌, ◌≢◌, refl, sym, ap, subst, ◌∙◌, ℕ, zero, suc, ◌+◌, ◌-◌, ◌<◌, ◌≤◌, Bool, true, false, cond, nat_lt, Option, Some, None, is_some, OnSome, set, inl, inr, ◌⊎◌, arith}
use Rattle.std.proofs.Common.{ltb-true}
use Rattle.std.proofs.lemmas.Bool.{false≢true, and_parts, cases_eq}
use Rattle.std.specs.Ordering.{nat_cmp}
use Rattle.std.specs.Cmp.{nat_cmp_total}
use Rattle.std.specs.FinMap.{FinMap, get-insert, get-remove, get-empty}
use Rattle.std.specs.FinMap as map
use Rattle.slab.specs.Slab.{Slab, get, ContainsKey, Updates, with_value}
use Rattle.slab.proofs.SlabLemmas.{ContainsKey-within, Updates-set, Updates-with_value}
use Rattle.relay_model.specs.Choices.{count, one_more}
use Rattle.key_map.specs.Entries.{Keyed}
use Rattle.key_map.proofs.Found.{test_same, test_other, same_without}
use Rattle.fork_table.specs.Tables.{Changes, Table, with_row, with_session, IsTable, may_accept_in, row_of, row_by, live_in}

-- ---- maps of keys

set_here : (m : FinMap nat_cmp ℕ) (k v : ℕ) → map.get (map.insert m k v) k ≡ Some v
set_here m k v = get-insert nat_cmp_total m k v k ∙ ap (λ b. cond b (Some v) (map.get m k)) (test_same k k refl)

set_else : (m : FinMap nat_cmp ℕ) (k v q : ℕ) → q ≢ k → map.get (map.insert m k v) q ≡ map.get m q
set_else m k v q differ = get-insert nat_cmp_total m k v q ∙ ap (λ b. cond b (Some v) (map.get m q)) (test_other q k differ)

gone_here : (m : FinMap nat_cmp ℕ) (k : ℕ) → map.get (map.remove m k) k ≡ None
gone_here m k = get-remove nat_cmp_total m k k ∙ ap (λ b. cond b None (map.get m k)) (test_same k k refl)

gone_else : (m : FinMap nat_cmp ℕ) (k q : ℕ) → q ≢ k → map.get (map.remove m k) q ≡ map.get m q
gone_else m k q differ = get-remove nat_cmp_total m k q ∙ ap (λ b. cond b None (map.get m q)) (test_other q k differ)

-- ---- counts

count_same : (f g : ℕ → Bool) (k : ℕ) → ((s : ℕ) → s < k → f s ≡ g s) → count f k ≡ count g k
count_same f g zero h = refl
count_same f g (suc k) h = let a = h k (omega arith) in let b = count_same f g k (λ s l. h s (omega arith)) in λ i. one_more (a i) (b i)

-- one number fewer passes the test
count_drop : (f g : ℕ → Bool) (k s : ℕ) → s < k → f s ≡ true → g s ≡ false → ((q : ℕ) → q ≢ s → f q ≡ g q) → count f k ≡ suc (count g k)
count_drop f g zero s l a b h = absurd (omega arith)
count_drop f g (suc k) s l a b h = go (cases_eq s k) (λ m. count_drop f g k s m a b h)
  where
    up : (x : Bool) → count f k ≡ suc (count g k) → one_more x (count f k) ≡ suc (one_more x (count g k))
    up true e = ap suc e
    up false e = e

    go : (s ≡ k) ⊎ (s ≢ k) → (s < k → count f k ≡ suc (count g k)) → one_more (f k) (count f k) ≡ suc (one_more (g k) (count g k))
    go (inl e) again =
        let x : f k ≡ true = ap f (sym e) ∙ a in
        let y : g k ≡ false = ap g (sym e) ∙ b in
        let z = count_same f g k (λ q m. h q (omega (arith, e, m))) in
        (λ i. one_more (x i) (z i)) ∙ ap suc (λ i. one_more (sym y i) (count g k))
    go (inr differ) again =
        let x = h k (λ e. differ (sym e)) in
        ap (λ b. one_more b (count f k)) x ∙ up (g k) (again (omega (arith, differ)))

-- ---- the table

some_not : {A : Type 0} (o : Option A) (x : A) → o ≡ None → o ≡ Some x → ⊥
some_not o x n s = let e : None ≡ Some x = sym n ∙ s in cc

unmapped : (m n : FinMap nat_cmp ℕ) (q key : ℕ) → map.get m q ≡ None → n ≡ m → map.get n q ≡ Some key → ⊥
unmapped m n q key none e some = some_not (map.get m q) key none (ap (λ x. map.get x q) (sym e) ∙ some)

module _ {T : Type 0} where
  -- none has come
  pub empty_table : (numbers : Keyed) (rows : Slab T) (most last : ℕ) → numbers.values ≡ map.empty → IsTable (record { numbers = numbers; rows = rows; admitted = 0; live = 0; max_children = most; stop_after = last })
  empty_table numbers rows most last e = record {
    was_admitted = λ n k h. absurd (unmapped map.empty numbers.values n k (get-empty nat_cmp n) e h);
    has_row = λ n k h. absurd (unmapped map.empty numbers.values n k (get-empty nat_cmp n) e h);
    own_row = λ n o k h g. absurd (unmapped map.empty numbers.values n k (get-empty nat_cmp n) e h);
    live_is = refl;
    few = omega arith;
  }

  -- ---- a session comes

  pub fewer_live : (t : Table T) → IsTable t → may_accept_in t ≡ true → t.live < t.max_children
  fewer_live t is e = let l = ltb-true (live_in t) t.max_children (and_parts (nat_lt (live_in t) t.max_children) (nat_lt t.admitted t.stop_after) e).0 in let k = is.live_is in omega (arith, l, k)

  abbrev with_next : Table T → Keyed → Slab T → Table T
  with_next t numbers rows = record { numbers = numbers; rows = rows; admitted = t.admitted + 1; live = t.live + 1; max_children = t.max_children; stop_after = t.stop_after }

  -- what a key finds is no vacant row
  kept_key : (rows : Slab T) (key k : ℕ) → get rows key ≡ None → ContainsKey rows k → k ≢ key
  kept_key rows key k vacant has e = false≢true (sym (ap is_some vacant) ∙ ap (λ x. is_some (get rows x)) (sym e) ∙ has)

  pub next_row : (t : Table T) (numbers : Keyed) (rows : Slab T) (key : ℕ) (session : T) → IsTable t → numbers.values ≡ map.insert t.numbers.values t.admitted key → Updates t.rows rows key (Some session) → row_of (with_next t numbers rows) t.admitted ≡ Some session
  next_row t numbers rows key session is e u = ap (λ m. row_by rows (map.get m t.admitted)) e ∙ ap (row_by rows) (set_here t.numbers.values t.admitted key) ∙ u.changed

  row_kept : (t : Table T) (rows : Slab T) (key : ℕ) (slot o : Option T) (found : Option ℕ) → Updates t.rows rows key slot → ((k : ℕ) → found ≡ Some k → k ≢ key) → row_by rows found ≡ row_by t.rows found
  row_kept t rows key slot o None u h = refl
  row_kept t rows key slot o (Some k) u h = u.others k (h k refl)

  pub next_others : (t : Table T) (numbers : Keyed) (rows : Slab T) (key : ℕ) (session : T) → IsTable t → numbers.values ≡ map.insert t.numbers.values t.admitted key → get t.rows key ≡ None → Updates t.rows rows key (Some session) → (q : ℕ) → q ≢ t.admitted → row_of (with_next t numbers rows) q ≡ row_of t q
  next_others t numbers rows key session is e vacant u q differ =
      ap (λ m. row_by rows (map.get m q)) e ∙ ap (row_by rows) (set_else t.numbers.values t.admitted key q differ)
      ∙ row_kept t rows key (Some session) None (map.get t.numbers.values q) u (λ k found. kept_key t.rows key k vacant (is.has_row q k found))

  pub next_table : (t : Table T) (numbers : Keyed) (rows : Slab T) (key : ℕ) (session : T) → IsTable t → numbers.values ≡ map.insert t.numbers.values t.admitted key → get t.rows key ≡ None → Updates t.rows rows key (Some session) → t.live < t.max_children → IsTable (with_next t numbers rows)
  next_table t numbers rows key session is e vacant u few = record {
    was_admitted = λ n k h. admitted_by n k h (cases_eq n t.admitted);
    has_row = λ n k h. row_by_key n k h (cases_eq n t.admitted);
    own_row = λ n o k h g. own n o k h g (cases_eq n t.admitted) (cases_eq o t.admitted);
    live_is = counted;
    few = omega (arith, few);
  }
    where
      before : (n k : ℕ) → map.get numbers.values n ≡ Some k → n ≢ t.admitted → map.get t.numbers.values n ≡ Some k
      before n k h differ = sym (set_else t.numbers.values t.admitted key n differ) ∙ ap (λ m. map.get m n) (sym e) ∙ h

      here : (n k : ℕ) → map.get numbers.values n ≡ Some k → n ≡ t.admitted → k ≡ key
      here n k h same =
          let x : Some key ≡ Some k = sym (set_here t.numbers.values t.admitted key) ∙ ap (λ m. map.get m t.admitted) (sym e) ∙ ap (map.get numbers.values) (sym same) ∙ h in
          cc

      admitted_by : (n k : ℕ) → map.get numbers.values n ≡ Some k → (n ≡ t.admitted) ⊎ (n ≢ t.admitted) → n < t.admitted + 1
      admitted_by n k h (inl same) = omega (arith, same)
      admitted_by n k h (inr differ) = let l = is.was_admitted n k (before n k h differ) in omega (arith, l)

      row_by_key : (n k : ℕ) → map.get numbers.values n ≡ Some k → (n ≡ t.admitted) ⊎ (n ≢ t.admitted) → ContainsKey rows k
      row_by_key n k h (inl same) = ap (λ x. is_some (get rows x)) (here n k h same) ∙ ap is_some u.changed
      row_by_key n k h (inr differ) =
          let had = is.has_row n k (before n k h differ) in
          ap is_some (u.others k (kept_key t.rows key k vacant had)) ∙ had

      own : (n o k : ℕ) → map.get numbers.values n ≡ Some k → map.get numbers.values o ≡ Some k → (n ≡ t.admitted) ⊎ (n ≢ t.admitted) → (o ≡ t.admitted) ⊎ (o ≢ t.admitted) → n ≡ o
      own n o k h g (inl a) (inl b) = a ∙ sym b
      own n o k h g (inl a) (inr b) = absurd (kept_key t.rows key k vacant (is.has_row o k (before o k g b)) (here n k h a))
      own n o k h g (inr a) (inl b) = absurd (kept_key t.rows key k vacant (is.has_row n k (before n k h a)) (here o k g b))
      own n o k h g (inr a) (inr b) = is.own_row n o k (before n k h a) (before o k g b)

      counted : t.live + 1 ≡ live_in (with_next t numbers rows)
      counted =
          let x = ap is_some (next_row t numbers rows key session is e u) in
          let y = count_same (λ n. is_some (row_of (with_next t numbers rows) n)) (λ n. is_some (row_of t n)) t.admitted (λ n l. ap is_some (next_others t numbers rows key session is e vacant u n (omega (arith, l)))) in
          let z : suc (live_in t) ≡ count (λ n. is_some (row_of (with_next t numbers rows) n)) (suc t.admitted) = λ i. one_more (sym x i) (sym y i) in
          let w : suc t.admitted ≡ t.admitted + 1 = omega arith in
          let v : t.live + 1 ≡ suc (live_in t) = let l = is.live_is in omega (arith, l) in
          v ∙ z ∙ ap (count (λ n. is_some (row_of (with_next t numbers rows) n))) w

  -- ---- a session goes

  abbrev without : Table T → Keyed → Slab T → Table T
  without t numbers rows = record { numbers = numbers; rows = rows; admitted = t.admitted; live = t.live - 1; max_children = t.max_children; stop_after = t.stop_after }

  abbrev renumbered : Table T → Keyed → Table T
  renumbered t numbers = record t { numbers = numbers }

  -- of a number that doesn't live nothing is taken out
  pub same_table : (t : Table T) (numbers : Keyed) (q : ℕ) → IsTable t → map.get t.numbers.values q ≡ None → numbers.values ≡ map.remove t.numbers.values q → IsTable (renumbered t numbers)
  same_table t numbers q is none e = subst (λ (m : FinMap nat_cmp ℕ). IsTable (renumbered t (record { values = m; room = numbers.room }))) (same_without t.numbers.values q none ∙ sym e) (record { was_admitted = is.was_admitted; has_row = is.has_row; own_row = is.own_row; live_is = is.live_is; few = is.few })

  pub same_rows : (t : Table T) (numbers : Keyed) (q : ℕ) → IsTable t → map.get t.numbers.values q ≡ None → numbers.values ≡ map.remove t.numbers.values q → (n : ℕ) → row_of (renumbered t numbers) n ≡ row_of t n
  same_rows t numbers q is none e n = ap (λ m. row_by t.rows (map.get m n)) (e ∙ sym (same_without t.numbers.values q none))

  pub unlived : (t : Table T) (numbers : Keyed) (q : ℕ) → IsTable t → map.get t.numbers.values q ≡ None → numbers.values ≡ map.remove t.numbers.values q → row_of (renumbered t numbers) q ≡ None
  unlived t numbers q is none e = same_rows t numbers q is none e q ∙ ap (row_by t.rows) none

  pub gone_row : (t : Table T) (numbers : Keyed) (rows : Slab T) (q : ℕ) → IsTable t → numbers.values ≡ map.remove t.numbers.values q → row_of (without t numbers rows) q ≡ None
  gone_row t numbers rows q is e = ap (λ m. row_by rows (map.get m q)) e ∙ ap (row_by rows) (gone_here t.numbers.values q)

  pub gone_others : (t : Table T) (numbers : Keyed) (rows : Slab T) (q key : ℕ) → IsTable t → map.get t.numbers.values q ≡ Some key → numbers.values ≡ map.remove t.numbers.values q → Updates t.rows rows key None → (n : ℕ) → n ≢ q → row_of (without t numbers rows) n ≡ row_of t n
  gone_others t numbers rows q key is found e u n differ =
      ap (λ m. row_by rows (map.get m n)) e ∙ ap (row_by rows) (gone_else t.numbers.values q n differ)
      ∙ row_kept t rows key None None (map.get t.numbers.values n) u (λ k h same. differ (is.own_row n q key (h ∙ ap Some same) found))

  -- what a number finds is a row
  pub live_row : (t : Table T) (q key : ℕ) → IsTable t → map.get t.numbers.values q ≡ Some key → is_some (row_of t q) ≡ true
  live_row t q key is found = ap (λ o. is_some (row_by t.rows o)) found ∙ is.has_row q key found

  drop_live : (t : Table T) (numbers : Keyed) (rows : Slab T) (q key : ℕ) → IsTable t → map.get t.numbers.values q ≡ Some key → numbers.values ≡ map.remove t.numbers.values q → Updates t.rows rows key None → t.live ≡ suc (live_in (without t numbers rows))
  drop_live t numbers rows q key is found e u =
      is.live_is
      ∙ count_drop (λ n. is_some (row_of t n)) (λ n. is_some (row_of (without t numbers rows) n)) t.admitted q (is.was_admitted q key found) (live_row t q key is found) (ap is_some (gone_row t numbers rows q is e))
      (λ n differ. ap is_some (sym (gone_others t numbers rows q key is found e u n differ)))

  -- some session lives where one is found
  pub some_live : (t : Table T) (q key : ℕ) → IsTable t → map.get t.numbers.values q ≡ Some key → 1 ≤ t.live
  some_live t q key is found =
      let numbers : Keyed = record { values = map.remove t.numbers.values q; room = 0 } in
      let rows : Slab T = record t.rows { slots = set t.rows.slots key None } in
      let l = drop_live t numbers rows q key is found refl (Updates-set t.rows rows key None (ContainsKey-within t.rows key (is.has_row q key found)) refl) in
      omega (arith, l)

  pub gone_table : (t : Table T) (numbers : Keyed) (rows : Slab T) (q key : ℕ) → IsTable t → map.get t.numbers.values q ≡ Some key → numbers.values ≡ map.remove t.numbers.values q → Updates t.rows rows key None → IsTable (without t numbers rows)
  gone_table t numbers rows q key is found e u = record {
    was_admitted = λ n k h. is.was_admitted n k (before n k h (cases_eq n q));
    has_row = λ n k h. ap is_some (u.others k (apart n k h (cases_eq n q))) ∙ is.has_row n k (before n k h (cases_eq n q));
    own_row = λ n o k h g. is.own_row n o k (before n k h (cases_eq n q)) (before o k g (cases_eq o q));
    live_is = let l = drop_live t numbers rows q key is found e u in omega (arith, l);
    few = let l = is.few in omega (arith, l);
  }
    where
      gone : (n k : ℕ) → map.get numbers.values n ≡ Some k → n ≡ q → ⊥
      gone n k h same = some_not (map.get numbers.values n) k (ap (map.get numbers.values) same ∙ ap (λ m. map.get m q) e ∙ gone_here t.numbers.values q) h

      before : (n k : ℕ) → map.get numbers.values n ≡ Some k → (n ≡ q) ⊎ (n ≢ q) → map.get t.numbers.values n ≡ Some k
      before n k h (inl same) = absurd (gone n k h same)
      before n k h (inr differ) = sym (gone_else t.numbers.values q n differ) ∙ ap (λ m. map.get m n) (sym e) ∙ h

      apart : (n k : ℕ) → map.get numbers.values n ≡ Some k → (n ≡ q) ⊎ (n ≢ q) → k ≢ key
      apart n k h (inl same) = absurd (gone n k h same)
      apart n k h (inr differ) = λ same. differ (is.own_row n q key (before n k h (inr differ) ∙ ap Some same) found)

  -- ---- a session is changed

  pub lent_table : (t : Table T) (q key : ℕ) (w : T) → IsTable t → map.get t.numbers.values q ≡ Some key → IsTable (record t { rows = with_value t.rows key w })
  lent_table t q key w is found = record {
    was_admitted = is.was_admitted;
    has_row = λ n k h. has n k h (cases_eq k key);
    own_row = is.own_row;
    live_is = is.live_is ∙ count_same (λ n. is_some (row_of t n)) (λ n. is_some (row_of changed n)) t.admitted (λ n l. same (map.get t.numbers.values n) (λ k h. is.has_row n k h));
    few = is.few;
  }
    where
      changed : Table T
      changed = record t { rows = with_value t.rows key w }

      u : Updates t.rows (with_value t.rows key w) key (Some w)
      u = Updates-with_value t.rows key w (is.has_row q key found)

      held : (k : ℕ) → ContainsKey t.rows k → (k ≡ key) ⊎ (k ≢ key) → ContainsKey (with_value t.rows key w) k
      held k had (inl e) = ap (λ x. is_some (get (with_value t.rows key w) x)) e ∙ ap is_some u.changed
      held k had (inr differ) = ap is_some (u.others k differ) ∙ had

      has : (n k : ℕ) → map.get t.numbers.values n ≡ Some k → (k ≡ key) ⊎ (k ≢ key) → ContainsKey (with_value t.rows key w) k
      has n k h c = held k (is.has_row n k h) c

      same : (found : Option ℕ) → ((k : ℕ) → found ≡ Some k → ContainsKey t.rows k) → is_some (row_by t.rows found) ≡ is_some (row_by (with_value t.rows key w) found)
      same None h = refl
      same (Some k) h = h k refl ∙ sym (held k (h k refl) (cases_eq k key))

  -- a write through what is lent changes that session alone
  pub changed : (t : Table T) (q key : ℕ) (w : T) → IsTable t → map.get t.numbers.values q ≡ Some key → Changes t (with_session t q w) q w
  changed t q key w is found = subst (λ (x : Table T). Changes t x q w) (ap (λ o. with_row t o w) (sym found)) (record {
    row = ap (row_by (with_value t.rows key w)) found ∙ u.changed;
    others = λ n differ. row_kept t (with_value t.rows key w) key (Some w) None (map.get t.numbers.values n) u (λ k h same. differ (is.own_row n q key (h ∙ ap Some same) found));
    admitted = refl;
    bounds = (refl, refl);
  })
    where
      u : Updates t.rows (with_value t.rows key w) key (Some w)
      u = Updates-with_value t.rows key w (is.has_row q key found)

pub lent_to : {A : Type 0} (o : Option A) (P : Type 0) → P → OnSome o P
lent_to None P p = tt
lent_to (Some x) P p = p
