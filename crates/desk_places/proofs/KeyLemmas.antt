-- Keys that change their places in an order.
use Rattle.std.proofs.Common.{◌≡◌, ◌≢◌, ◌⊎◌, inl, inr, ℕ, zero, suc, Bool, true, false, true≢false, ◌||◌, eqb, nat_lt, List, [], ◌∷◌, ◌++◌, set, take, length, slice_get, ◌<◌, ◌≤◌, ◌+◌, Some, refl, sym, ap, ◌∙◌, if◌then◌else◌, arith}
use Rattle.std.proofs.lemmas.Bool.Decides.{eqb_tells, nat_tests}
use Rattle.std.proofs.lemmas.List.{length-append, length-set}
use Rattle.std.proofs.lemmas.Option.{slice_get_within}
use Rattle.desk_places.specs.Keys.{AreInverse, is_in}

-- ---- numbers that are the same or not

abbrev Tells : ℕ → ℕ → Type 0
Tells a b = ((eqb a b ≡ true) × (a ≡ b)) ⊎ ((eqb a b ≡ false) × (a ≢ b))

same_by : (a b : ℕ) → Tells a b → a ≡ b → eqb a b ≡ true
same_by a b (inl t) e = t.0
same_by a b (inr t) e = absurd (t.1 e)

pub is_same : (a b : ℕ) → a ≡ b → eqb a b ≡ true
is_same a b e = same_by a b (eqb_tells a b) e

apart_by : (a b : ℕ) → Tells a b → a ≢ b → eqb a b ≡ false
apart_by a b (inl t) away = absurd (away t.1)
apart_by a b (inr t) away = t.0

pub is_apart : (a b : ℕ) → a ≢ b → eqb a b ≡ false
is_apart a b away = apart_by a b (eqb_tells a b) away

up_by : (a b : ℕ) → Tells a b → eqb (suc a) (suc b) ≡ eqb a b
up_by a b (inl t) = is_same (suc a) (suc b) (ap suc t.1) ∙ sym t.0
up_by a b (inr t) = is_apart (suc a) (suc b) (λ same. t.1 (omega (arith, same))) ∙ sym t.0

-- ---- what stands where after a write

pub get_set : (xs : List ℕ) (i v k : ℕ) → i < length xs → slice_get (set xs i v) k ≡ (if eqb k i then Some v else slice_get xs k)
get_set [] i v k within = absurd (omega (arith, within))
get_set (x ∷ xs) zero v zero within = refl
get_set (x ∷ xs) zero v (suc k) within = rw (is_apart (suc k) zero (λ same. omega (arith, same))) refl
get_set (x ∷ xs) (suc i) v zero within = rw (is_apart zero (suc i) (λ same. omega (arith, same))) refl
get_set (x ∷ xs) (suc i) v (suc k) within = rw (up_by k i (eqb_tells k i)) (get_set xs i v k (omega (arith, within)))

-- after two writes
pub get_sets : (xs : List ℕ) (p u q v k : ℕ) → p < length xs → q < length xs → slice_get (set (set xs p u) q v) k ≡ (if eqb k q then Some v else if eqb k p then Some u else slice_get xs k)
get_sets xs p u q v k first second = get_set (set xs p u) q v k (rw (length-set xs p u) second) ∙ ap (λ slot. if eqb k q then Some v else slot) (get_set xs p u k first)

get_last : (xs : List ℕ) (p u q v k : ℕ) → p < length xs → q < length xs → k ≡ q → slice_get (set (set xs p u) q v) k ≡ Some v
get_last xs p u q v k first second e = get_sets xs p u q v k first second ∙ rw (is_same k q e) refl

get_first : (xs : List ℕ) (p u q v k : ℕ) → p < length xs → q < length xs → k ≢ q → k ≡ p → slice_get (set (set xs p u) q v) k ≡ Some u
get_first xs p u q v k first second away e = get_sets xs p u q v k first second ∙ rw (is_apart k q away, is_same k p e) refl

get_rest : (xs : List ℕ) (p u q v k : ℕ) → p < length xs → q < length xs → k ≢ q → k ≢ p → slice_get (set (set xs p u) q v) k ≡ slice_get xs k
get_rest xs p u q v k first second away off = get_sets xs p u q v k first second ∙ rw (is_apart k q away, is_apart k p off) refl

some_is : (a b : ℕ) → Some a ≡ Some b → a ≡ b
some_is a b e = cc

-- ---- two lists that are each other's inverse

module _ (xs ys : List ℕ) (i j a b : ℕ) (inverse : AreInverse xs ys) (at_i : slice_get xs i ≡ Some a) (at_j : slice_get xs j ≡ Some b) where
  i_within : i < length xs
  i_within = slice_get_within xs i a at_i

  j_within : j < length xs
  j_within = slice_get_within xs j b at_j

  a_within : a < length ys
  a_within = slice_get_within ys a i (inverse.there i a at_i)

  b_within : b < length ys
  b_within = slice_get_within ys b j (inverse.there j b at_j)

  -- a number stands at one place
  once : (p q k : ℕ) → slice_get xs p ≡ Some k → slice_get xs q ≡ Some k → p ≡ q
  once p q k e f = some_is p q (sym (inverse.there p k e) ∙ inverse.there q k f)

  abbrev xs' : List ℕ
  xs' = set (set xs i b) j a

  abbrev ys' : List ℕ
  ys' = set (set ys b i) a j

  there_rest : (p k : ℕ) → p ≢ j → p ≢ i → slice_get xs p ≡ Some k → slice_get ys' k ≡ Some p
  there_rest p k off_j off_i e =
      get_rest ys b i a j k b_within a_within
      (λ same. off_i (once p i a (e ∙ ap Some same) at_i))
      (λ same. off_j (once p j b (e ∙ ap Some same) at_j))
      ∙ inverse.there p k e

  there_by : (p k : ℕ) → Tells p j → Tells p i → slice_get xs' p ≡ Some k → slice_get ys' k ≡ Some p
  there_by p k (inl t) s e =
      let k_is : k ≡ a = some_is k a (sym e ∙ get_last xs i b j a p i_within j_within t.1) in
      get_last ys b i a j k b_within a_within k_is ∙ ap Some (sym t.1)
  there_by p k (inr t) (inl s) e =
      let k_is : k ≡ b = some_is k b (sym e ∙ get_first xs i b j a p i_within j_within t.1 s.1) in
      let off : k ≢ a = λ same. t.1 (s.1 ∙ once i j a at_i (at_j ∙ ap Some (sym k_is ∙ same))) in
      get_first ys b i a j k b_within a_within off k_is ∙ ap Some (sym s.1)
  there_by p k (inr t) (inr s) e = there_rest p k t.1 s.1 (sym (get_rest xs i b j a p i_within j_within t.1 s.1) ∙ e)

  back_rest : (p k : ℕ) → k ≢ a → k ≢ b → slice_get ys k ≡ Some p → slice_get xs' p ≡ Some k
  back_rest p k off_a off_b e =
      let at : slice_get xs p ≡ Some k = inverse.back p k e in
      get_rest xs i b j a p i_within j_within
      (λ same. off_b (some_is k b (sym at ∙ (ap (slice_get xs) same ∙ at_j))))
      (λ same. off_a (some_is k a (sym at ∙ (ap (slice_get xs) same ∙ at_i))))
      ∙ at

  back_by : (p k : ℕ) → Tells k a → Tells k b → slice_get ys' k ≡ Some p → slice_get xs' p ≡ Some k
  back_by p k (inl t) s e =
      let p_is : p ≡ j = some_is p j (sym e ∙ get_last ys b i a j k b_within a_within t.1) in
      get_last xs i b j a p i_within j_within p_is ∙ ap Some (sym t.1)
  back_by p k (inr t) (inl s) e =
      let p_is : p ≡ i = some_is p i (sym e ∙ get_first ys b i a j k b_within a_within t.1 s.1) in
      let off : p ≢ j = λ same. t.1 (s.1 ∙ some_is b a (sym at_j ∙ (ap (slice_get xs) (sym same ∙ p_is) ∙ at_i))) in
      get_first xs i b j a p i_within j_within off p_is ∙ ap Some (sym s.1)
  back_by p k (inr t) (inr s) e = back_rest p k t.1 s.1 (sym (get_rest ys b i a j k b_within a_within t.1 s.1) ∙ e)

  -- two that are exchanged in one list are so in the other
  pub inverse_exchanged : AreInverse (set (set xs i b) j a) (set (set ys b i) a j)
  inverse_exchanged = record {
    there = λ p k. there_by p k (eqb_tells p j) (eqb_tells p i);
    back = λ p k. back_by p k (eqb_tells k a) (eqb_tells k b);
    same_length = length-set (set ys b i) a j ∙ (length-set ys b i ∙ (inverse.same_length ∙ sym (length-set (set xs i b) j a ∙ length-set xs i b)));
  }

  -- what stands where then
  pub exchanged_gets : (k : ℕ) → slice_get (set (set xs i b) j a) k ≡ (if eqb k j then slice_get xs i else if eqb k i then slice_get xs j else slice_get xs k)
  exchanged_gets k = rw (at_i, at_j) (get_sets xs i b j a k i_within j_within)

  pub first_within : a < length ys
  first_within = a_within

  pub second_within : b < length ys
  second_within = b_within

-- ---- what is in a set

bool_iff : (a b : Bool) → (a ≡ true → b ≡ true) → (b ≡ true → a ≡ true) → a ≡ b
bool_iff true true f g = refl
bool_iff true false f g = sym (f refl)
bool_iff false true f g = g refl
bool_iff false false f g = refl

not_so : (a : Bool) → (a ≡ true → ⊥) → a ≡ false
not_so true f = absurd (f refl)
not_so false f = refl

abbrev Found : ℕ → ℕ → List ℕ → Type 0
Found k n xs = (i : ℕ) × (i < n) × (slice_get xs i ≡ Some k)

found_by : (b : Bool) (x k n : ℕ) (xs : List ℕ) → eqb x k ≡ b → Tells x k → (is_in k (take n xs) ≡ true → Found k n xs) → (b || is_in k (take n xs)) ≡ true → Found k (suc n) (x ∷ xs)
found_by true x k n xs e (inl t) rest h = (zero, omega arith, ap Some t.1)
found_by true x k n xs e (inr t) rest h = absurd (true≢false (sym e ∙ t.0))
found_by false x k n xs e t rest h = let at = rest h in (suc at.0, omega (arith, at.1), at.2)

in_found : (k n : ℕ) (xs : List ℕ) → is_in k (take n xs) ≡ true → Found k n xs
in_found k zero xs h = absurd (true≢false (sym h))
in_found k (suc n) [] h = absurd (true≢false (sym h))
in_found k (suc n) (x ∷ xs) h = found_by (eqb x k) x k n xs refl (eqb_tells x k) (in_found k n xs) h

or_last : (a b : Bool) → b ≡ true → (a || b) ≡ true
or_last true b e = refl
or_last false b e = e

in_by : (k n i : ℕ) (xs : List ℕ) → i < n → slice_get xs i ≡ Some k → is_in k (take n xs) ≡ true
in_by k zero i xs below at = absurd (omega (arith, below))
in_by k (suc n) i [] below at = absurd cc
in_by k (suc n) zero (x ∷ xs) below at = ap (λ b. b || is_in k (take n xs)) (is_same x k (some_is x k at))
in_by k (suc n) (suc i) (x ∷ xs) below at = or_last (eqb x k) (is_in k (take n xs)) (in_by k n i xs (omega (arith, below)) at)

-- the numbers at two places stand in each other's
abbrev Exchanged : List ℕ → List ℕ → ℕ → ℕ → Type 0
Exchanged xs xs' one two = (i : ℕ) → slice_get xs' i ≡ (if eqb i two then slice_get xs one else if eqb i one then slice_get xs two else slice_get xs i)

at_two : (xs xs' : List ℕ) (one two i : ℕ) → Exchanged xs xs' one two → i ≡ two → slice_get xs' i ≡ slice_get xs one
at_two xs xs' one two i exchanged e = exchanged i ∙ rw (is_same i two e) refl

at_one : (xs xs' : List ℕ) (one two i : ℕ) → Exchanged xs xs' one two → i ≢ two → i ≡ one → slice_get xs' i ≡ slice_get xs two
at_one xs xs' one two i exchanged away e = exchanged i ∙ rw (is_apart i two away, is_same i one e) refl

at_rest : (xs xs' : List ℕ) (one two i : ℕ) → Exchanged xs xs' one two → i ≢ two → i ≢ one → slice_get xs' i ≡ slice_get xs i
at_rest xs xs' one two i exchanged away off = exchanged i ∙ rw (is_apart i two away, is_apart i one off) refl

-- the key at a place that is told
pub key_at : (order places : List ℕ) (key place : ℕ) → AreInverse order places → slice_get places key ≡ Some place → slice_get order place ≡ Some key
key_at order places key place inverse told = inverse.back place key told

module _ (xs xs' : List ℕ) (key place count : ℕ) (at : slice_get xs place ≡ Some key) where
  -- ---- a key that is put in

  module _ (past : count ≤ place) (exchanged : Exchanged xs xs' place count) where
    pub put_here : (other : ℕ) → other ≡ key → is_in other (take (count + 1) xs') ≡ true
    put_here other e = in_by other (count + 1) count xs' (omega arith) (at_two xs xs' place count count exchanged refl ∙ (at ∙ ap Some (sym e)))

    put_new : (other i : ℕ) → Tells i count → other ≢ key → i < count + 1 → slice_get xs' i ≡ Some other → is_in other (take count xs) ≡ true
    put_new other i (inl t) away below e = absurd (away (some_is other key (sym e ∙ (at_two xs xs' place count i exchanged t.1 ∙ at))))
    put_new other i (inr t) away below e =
        let less : i < count = omega (arith, below, t.1) in
        in_by other count i xs less (sym (at_rest xs xs' place count i exchanged t.1 (λ same. omega (arith, same, less, past))) ∙ e)

    put_old : (other i : ℕ) → i < count → slice_get xs i ≡ Some other → is_in other (take (count + 1) xs') ≡ true
    put_old other i below e = in_by other (count + 1) i xs' (omega (arith, below)) (at_rest xs xs' place count i exchanged (λ same. omega (arith, same, below)) (λ same. omega (arith, same, below, past)) ∙ e)

    pub put_elsewhere : (other : ℕ) → other ≢ key → is_in other (take (count + 1) xs') ≡ is_in other (take count xs)
    put_elsewhere other away = bool_iff _ _
        (λ h. let f = in_found other (count + 1) xs' h in put_new other f.0 (eqb_tells f.0 count) away f.1 f.2)
        (λ h. let f = in_found other count xs h in put_old other f.0 f.1 f.2)

  -- it was there
  pub key_in : place < count → is_in key (take count xs) ≡ true
  key_in below = in_by key count place xs below at

  -- ---- a key that is taken out

  module _ (ys : List ℕ) (inverse : AreInverse xs ys) where
    only : (i k : ℕ) → slice_get xs i ≡ Some k → k ≡ key → i ≡ place
    only i k e same = some_is i place (sym (inverse.there i key (e ∙ ap Some same)) ∙ inverse.there place key at)

    -- it wasn't there
    pub key_out : count ≤ place → is_in key (take count xs) ≡ false
    key_out past = not_so _ (λ h. let f = in_found key count xs h in let stands = only f.0 key f.2 refl in let below = f.1 in omega (arith, stands, below, past))

    module _ (last : ℕ) (counted : count ≡ last + 1) (below : place < count) (exchanged : Exchanged xs xs' place last) where
      gone : (other i : ℕ) → Tells i place → other ≡ key → i < last → slice_get xs' i ≡ Some other → ⊥
      gone other i (inl t) e less found =
          let off : i ≢ last = λ same. omega (arith, same, less) in
          let stands : last ≡ place = only last other (sym (at_one xs xs' place last i exchanged off t.1) ∙ found) e in
          let same = t.1 in omega (arith, stands, same, less)
      gone other i (inr t) e less found =
          let off : i ≢ last = λ same. omega (arith, same, less) in
          t.1 (only i other (sym (at_rest xs xs' place last i exchanged off t.1) ∙ found) e)

      out_new : (other i : ℕ) → Tells i place → i < last → slice_get xs' i ≡ Some other → is_in other (take count xs) ≡ true
      out_new other i (inl t) less found =
          let off : i ≢ last = λ same. omega (arith, same, less) in
          in_by other count last xs (omega (arith, counted)) (sym (at_one xs xs' place last i exchanged off t.1) ∙ found)
      out_new other i (inr t) less found =
          let off : i ≢ last = λ same. omega (arith, same, less) in
          in_by other count i xs (omega (arith, counted, less)) (sym (at_rest xs xs' place last i exchanged off t.1) ∙ found)

      out_old : (other i : ℕ) → Tells i last → other ≢ key → i < count → slice_get xs i ≡ Some other → is_in other (take last xs') ≡ true
      out_old other i (inl t) away less found =
          let apart : place ≢ last = λ same. away (some_is other key (sym found ∙ (ap (slice_get xs) (t.1 ∙ sym same) ∙ at))) in
          in_by other last place xs' (omega (arith, counted, below, apart)) (at_one xs xs' place last place exchanged apart refl ∙ (ap (slice_get xs) (sym t.1) ∙ found))
      out_old other i (inr t) away less found =
          let off : i ≢ place = λ same. away (some_is other key (sym found ∙ (ap (slice_get xs) same ∙ at))) in
          let apart = t.1 in
          in_by other last i xs' (omega (arith, counted, less, apart)) (at_rest xs xs' place last i exchanged t.1 off ∙ found)

      pub out_here : (other : ℕ) → other ≡ key → is_in other (take last xs') ≡ false
      out_here other e = not_so _ (λ h. let f = in_found other last xs' h in gone other f.0 (eqb_tells f.0 place) e f.1 f.2)

      pub out_elsewhere : (other : ℕ) → other ≢ key → is_in other (take last xs') ≡ is_in other (take count xs)
      out_elsewhere other away = bool_iff _ _
          (λ h. let f = in_found other last xs' h in out_new other f.0 (eqb_tells f.0 place) f.1 f.2)
          (λ h. let f = in_found other count xs h in out_old other f.0 (eqb_tells f.0 last) away f.1 f.2)

below_of : (a b : ℕ) → true ≡ nat_lt a b → a < b
below_of a b e = grind (arith, nat_tests)

past_of : (a b : ℕ) → false ≡ nat_lt a b → b ≤ a
past_of a b e = grind (arith, nat_tests)

-- a key that stands as it is to
pub key_in_as : (xs ys : List ℕ) (key place count : ℕ) (inside : Bool) → slice_get xs place ≡ Some key → AreInverse xs ys → inside ≡ nat_lt place count → is_in key (take count xs) ≡ inside
key_in_as xs ys key place count true at inverse e = key_in xs xs key place count at (below_of place count e)
key_in_as xs ys key place count false at inverse e = key_out xs xs key place count at ys inverse (past_of place count e)

index_by : (b : Bool) (x k : ℕ) (xs : List ℕ) → eqb x k ≡ b → Tells x k → (is_in k xs ≡ true → (i : ℕ) × (slice_get xs i ≡ Some k)) → (b || is_in k xs) ≡ true → (i : ℕ) × (slice_get (x ∷ xs) i ≡ Some k)
index_by true x k xs e (inl t) rest h = (zero, ap Some t.1)
index_by true x k xs e (inr t) rest h = absurd (true≢false (sym e ∙ t.0))
index_by false x k xs e t rest h = let at = rest h in (suc at.0, at.1)

-- where a key of the set stands
pub in_index : (k : ℕ) (xs : List ℕ) → is_in k xs ≡ true → (i : ℕ) × (slice_get xs i ≡ Some k)
in_index k [] h = absurd (true≢false (sym h))
in_index k (x ∷ xs) h = index_by (eqb x k) x k xs refl (eqb_tells x k) (in_index k xs) h

-- ---- one more number that is covered

get_push : (xs : List ℕ) (v k : ℕ) → slice_get (xs ++ v ∷ []) k ≡ (if eqb k (length xs) then Some v else slice_get xs k)
get_push [] v zero = refl
get_push [] v (suc k) = rw (is_apart (suc k) zero (λ same. omega (arith, same))) refl
get_push (x ∷ xs) v zero = rw (is_apart zero (suc (length xs)) (λ same. omega (arith, same))) refl
get_push (x ∷ xs) v (suc k) = rw (up_by k (length xs) (eqb_tells k (length xs))) (get_push xs v k)

push_last : (xs : List ℕ) (v k : ℕ) → k ≡ length xs → slice_get (xs ++ v ∷ []) k ≡ Some v
push_last xs v k e = get_push xs v k ∙ rw (is_same k (length xs) e) refl

push_rest : (xs : List ℕ) (v k : ℕ) → k ≢ length xs → slice_get (xs ++ v ∷ []) k ≡ slice_get xs k
push_rest xs v k away = get_push xs v k ∙ rw (is_apart k (length xs) away) refl

more_by : (xs ys : List ℕ) (i k : ℕ) → ((i k : ℕ) → slice_get xs i ≡ Some k → slice_get ys k ≡ Some i) → length ys ≡ length xs → Tells i (length xs) → slice_get (xs ++ length xs ∷ []) i ≡ Some k → slice_get (ys ++ length xs ∷ []) k ≡ Some i
more_by xs ys i k there same (inl t) e =
    let k_is : k ≡ length xs = some_is k (length xs) (sym e ∙ push_last xs (length xs) i t.1) in
    push_last ys (length xs) k (k_is ∙ sym same) ∙ ap Some (sym t.1)
more_by xs ys i k there same (inr t) e =
    let at : slice_get ys k ≡ Some i = there i k (sym (push_rest xs (length xs) i t.1) ∙ e) in
    let within = slice_get_within ys k i at in
    push_rest ys (length xs) k (λ past. omega (arith, past, within)) ∙ at

pub inverse_more : (xs ys : List ℕ) (n : ℕ) → n ≡ length xs → AreInverse xs ys → AreInverse (xs ++ n ∷ []) (ys ++ n ∷ [])
inverse_more xs ys n e inverse =
    let turned : n ≡ length ys = e ∙ sym inverse.same_length in
    record {
      there = λ i k h. rw e (more_by xs ys i k inverse.there inverse.same_length (eqb_tells i (length xs)) (rw e at h));
      back = λ i k h. rw turned (more_by ys xs k i (λ p q. inverse.back q p) (sym inverse.same_length) (eqb_tells k (length ys)) (rw turned at h));
      same_length = rw (length-append ys (n ∷ []), length-append xs (n ∷ []), inverse.same_length) refl;
    }
