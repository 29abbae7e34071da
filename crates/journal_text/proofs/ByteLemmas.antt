-- Bytes that stand in a text or not, and where a text is cut at them.
use Rattle.std.proofs.Common.{◌≡◌, ℕ, ◌+◌, ◌<◌, ◌≤◌, Bool, true, false, cond, not, ◌&&◌, eqb, ltb, List, [], ◌∷◌, ◌++◌, length, get_or, take, drop, Option, Some, None, option_map, refl, sym, ap, ◌∙◌, arith, inl, inr, ◌⊎◌}
use Rattle.std.specs.Prelude.{option_and_then}
use Rattle.std.specs.List.{AllByRecursion, position_or_len, slice_split, join_with_byte, find}
use Rattle.std.specs.Str.{bytes_eq}
use Rattle.std.proofs.lemmas.Bool.{and_parts, and_from, ltb-true, lt-ltb, eqb-true, eq-eqb, ne_eqb, false_from_ne_true}
use Rattle.std.proofs.lemmas.List.{take_at, drop_at, drop-drop, length-append}
use Rattle.std.proofs.lemmas.List.Sums.{split_at_first, passes_at_first}
use Rattle.std.proofs.lemmas.List.Splits.{slice_split_none, slice_split_at}
use Rattle.std.proofs.lemmas.List.Elements.{All-from_recursion}
use Rattle.std.proofs.lemmas.Slice.Eq.{bytes_eq-Decides}
use Rattle.journal_text.specs.Reading.{only_if, around_first}

-- ---- steps that may find nothing

pub chosen : {A : Type 0} (b : Bool) (x y z : A) → cond b x y ≡ z → ((b ≡ true) × (x ≡ z)) ⊎ ((b ≡ false) × (y ≡ z))
chosen true x y z e = inl (refl, e)
chosen false x y z e = inr (refl, e)

pub map_some : {A B : Type 0} (f : A → B) (o : Option A) (y : B) → option_map f o ≡ Some y → (x : A) × (o ≡ Some x) × (f x ≡ y)
map_some f None y e = absurd cc
map_some f (Some x) y e = (x, refl, cc)

pub bind_some : {A B : Type 0} (o : Option A) (f : A → Option B) (y : B) → option_and_then f o ≡ Some y → (x : A) × (o ≡ Some x) × (f x ≡ Some y)
bind_some None f y e = absurd cc
bind_some (Some x) f y e = (x, refl, e)

pub only_some : {A : Type 0} (b : Bool) (x y : A) → only_if b x ≡ Some y → (b ≡ true) × (x ≡ y)
only_some true x y e = (refl, cc)
only_some false x y e = absurd cc

pub find_some : {A : Type 0} (p : A → Bool) (xs : List A) (x : A) → find p xs ≡ Some x → p x ≡ true
find_some p [] x e = absurd cc
find_some p (y ∷ ys) x e =
    elim (chosen (p y) (Some y) (find p ys) (Some x) e) [
      | inl h ↦ (let same : y ≡ x = cc in ap p (sym same) ∙ h.0)
      | inr h ↦ find_some p ys x h.1
    ]

-- ---- texts that are the same

pub cons_is : {A : Type 0} (x y : A) (xs ys : List A) → x ≡ y → xs ≡ ys → x ∷ xs ≡ y ∷ ys
cons_is x y xs ys e f = cc

pub around_is : (c : ℕ) (xs ys after more : List ℕ) → xs ≡ ys → after ≡ more → xs ++ c ∷ after ≡ ys ++ c ∷ more
around_is c xs ys after more e f = cc

pub same_bytes : (xs ys : List ℕ) → bytes_eq xs ys ≡ true → xs ≡ ys
same_bytes xs ys e = (bytes_eq-Decides xs ys).0 e

pub other_bytes : (xs ys : List ℕ) → (xs ≡ ys → ⊥) → bytes_eq xs ys ≡ false
other_bytes xs ys h = false_from_ne_true (bytes_eq xs ys) (λ e. h (same_bytes xs ys e))

-- ---- each byte is above a number

abbrev pub is_over : ℕ → List ℕ → Bool
is_over k [] = true
is_over k (b ∷ bs) = ltb k b && is_over k bs

pub is_over-append : (k : ℕ) (xs ys : List ℕ) → is_over k xs ≡ true → is_over k ys ≡ true → is_over k (xs ++ ys) ≡ true
is_over-append k [] ys e f = f
is_over-append k (x ∷ xs) ys e f =
    let p = and_parts (ltb k x) (is_over k xs) e in
    and_from (ltb k x) (is_over k (xs ++ ys)) p.0 (is_over-append k xs ys p.1 f)

pub is_over-weaken : (j k : ℕ) (xs : List ℕ) → j ≤ k → is_over k xs ≡ true → is_over j xs ≡ true
is_over-weaken j k [] le e = refl
is_over-weaken j k (x ∷ xs) le e =
    let p = and_parts (ltb k x) (is_over k xs) e in
    let above : k < x = ltb-true k x p.0 in
    and_from (ltb j x) (is_over j xs) (lt-ltb j x (omega arith)) (is_over-weaken j k xs le p.1)

-- ---- a byte stands nowhere in a text

abbrev pub lacks : ℕ → List ℕ → Bool
lacks c [] = true
lacks c (b ∷ bs) = not (eqb b c) && lacks c bs

pub lacks-append : (c : ℕ) (xs ys : List ℕ) → lacks c xs ≡ true → lacks c ys ≡ true → lacks c (xs ++ ys) ≡ true
lacks-append c [] ys e f = f
lacks-append c (x ∷ xs) ys e f =
    let p = and_parts (not (eqb x c)) (lacks c xs) e in
    and_from (not (eqb x c)) (lacks c (xs ++ ys)) p.0 (lacks-append c xs ys p.1 f)

differs : (b c : ℕ) → (b ≡ c → ⊥) → not (eqb b c) ≡ true
differs b c h = ap not (ne_eqb b c h)

pub lacks-from_over : (c k : ℕ) (xs : List ℕ) → c ≤ k → is_over k xs ≡ true → lacks c xs ≡ true
lacks-from_over c k [] le e = refl
lacks-from_over c k (x ∷ xs) le e =
    let p = and_parts (ltb k x) (is_over k xs) e in
    let above : k < x = ltb-true k x p.0 in
    and_from (not (eqb x c)) (lacks c xs) (differs x c (λ same. omega arith)) (lacks-from_over c k xs le p.1)

not_true : (b : Bool) → not b ≡ true → b ≡ false
not_true true e = absurd cc
not_true false e = refl

each_differs : (c : ℕ) (xs : List ℕ) → lacks c xs ≡ true → AllByRecursion (λ x. eqb x c ≡ false) xs
each_differs c [] e = tt
each_differs c (x ∷ xs) e =
    let p = and_parts (not (eqb x c)) (lacks c xs) e in
    (not_true (eqb x c) p.0, each_differs c xs p.1)

-- ---- the parts around the first such byte

place_of : (c : ℕ) (xs ys : List ℕ) → lacks c xs ≡ true → position_or_len (λ x. eqb x c) (xs ++ c ∷ ys) ≡ length xs
place_of c [] ys e = rw (eq-eqb c c refl) refl
place_of c (x ∷ xs) ys e =
    let p = and_parts (not (eqb x c)) (lacks c xs) e in
    rw (not_true (eqb x c) p.0) (rw (place_of c xs ys p.1) (omega arith))

pub around_again : (c : ℕ) (xs ys : List ℕ) → lacks c xs ≡ true → around_first c (xs ++ c ∷ ys) ≡ Some (xs, ys)
unfolding around_first
around_again c xs ys none =
    let place = place_of c xs ys none in
    let within : ltb (length xs) (length (xs ++ c ∷ ys)) ≡ true = lt-ltb _ _ (omega (arith, length-append xs (c ∷ ys))) in
    let front : take (length xs) (xs ++ c ∷ ys) ≡ xs = take_at xs (c ∷ ys) (length xs) refl in
    let back : drop (length xs + 1) (xs ++ c ∷ ys) ≡ ys =
    sym (drop-drop 1 (length xs) (xs ++ c ∷ ys)) ∙ ap (λ (t : List ℕ). drop 1 t) (drop_at xs (c ∷ ys) (length xs) refl) in
    rw (place, within, front, back) refl

cut_at : (c : ℕ) (text : List ℕ) → position_or_len (λ x. eqb x c) text < length text → text ≡ take (position_or_len (λ x. eqb x c) text) text ++ c ∷ drop (position_or_len (λ x. eqb x c) text + 1) text
cut_at c text within =
    let is : get_or text (position_or_len (λ x. eqb x c) text) 0 ≡ c = eqb-true _ _ (passes_at_first (λ x. eqb x c) text 0 within) in
    split_at_first (λ x. eqb x c) text 0 within
    ∙ ap (λ (b : ℕ). take (position_or_len (λ x. eqb x c) text) text ++ b ∷ drop (position_or_len (λ x. eqb x c) text + 1) text) is

found_at : {A : Type 0} (b : Bool) (n : ℕ) (f : ℕ → A) (y : A) → option_map f (cond b (Some n) None) ≡ Some y → (b ≡ true) × (f n ≡ y)
found_at true n f y e = (refl, cc)
found_at false n f y e = absurd cc

pub around_takes : (c : ℕ) (text : List ℕ) (parts : List ℕ × List ℕ) → around_first c text ≡ Some parts → text ≡ parts.0 ++ c ∷ parts.1
unfolding around_first
around_takes c text parts e =
    let h = found_at (ltb (position_or_len (λ x. eqb x c) text) (length text)) (position_or_len (λ x. eqb x c) text) (λ at. (take at text, drop (at + 1) text)) parts e in
    cut_at c text (ltb-true _ _ h.0) ∙ ap (λ (p : List ℕ × List ℕ). p.0 ++ c ∷ p.1) h.1

-- ---- pieces that are joined by a byte

-- the byte stands in no piece
abbrev pub AllLack : ℕ → List (List ℕ) → Type 0
AllLack c pieces = AllByRecursion (λ piece. lacks c piece ≡ true) pieces

pub split_joined : (c : ℕ) (piece : List ℕ) (pieces : List (List ℕ)) → AllLack c (piece ∷ pieces) → slice_split (λ b. eqb b c) (join_with_byte c (piece ∷ pieces)) ≡ piece ∷ pieces
split_joined c piece [] h = slice_split_none (λ b. eqb b c) piece (All-from_recursion _ piece (each_differs c piece h.0))
split_joined c piece (next ∷ pieces) h =
    slice_split_at (λ b. eqb b c) piece c (join_with_byte c (next ∷ pieces)) (All-from_recursion _ piece (each_differs c piece h.0)) (eq-eqb c c refl)
    ∙ ap (λ (more : List (List ℕ)). piece ∷ more) (split_joined c next pieces h.1)

pub is_over-joined : (k c : ℕ) (pieces : List (List ℕ)) → k < c → AllByRecursion (λ piece. is_over k piece ≡ true) pieces → is_over k (join_with_byte c pieces) ≡ true
is_over-joined k c [] lt h = refl
is_over-joined k c (piece ∷ []) lt h = h.0
is_over-joined k c (piece ∷ next ∷ pieces) lt h =
    is_over-append k piece (c ∷ join_with_byte c (next ∷ pieces)) h.0
    (and_from (ltb k c) (is_over k (join_with_byte c (next ∷ pieces))) (lt-ltb k c lt) (is_over-joined k c (next ∷ pieces) lt h.1))

pub joined_longer : (c : ℕ) (piece : List ℕ) (pieces : List (List ℕ)) → length piece ≤ length (join_with_byte c (piece ∷ pieces))
joined_longer c piece [] = omega arith
joined_longer c piece (next ∷ pieces) = omega (arith, length-append piece (c ∷ join_with_byte c (next ∷ pieces)))
