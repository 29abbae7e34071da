-- What is left of the items of a script, at the place where the next one stands.
use Rattle.std.proofs.Common.{◌≡◌, ◌<◌, ◌≤◌, ◌+◌, ℕ, suc, Bool, true, false, not, cond, List, [], ◌∷◌, length, set, get_or, Some, None, refl, sym, ap, ◌∙◌, arith, nat_lt, if◌then◌else◌}
use Rattle.std.proofs.lemmas.Grind.{common_steps}
use Rattle.std.proofs.lemmas.Bool.{ltb-false}
use Rattle.std.specs.List.{remove, position, position_or_len}
use Rattle.relay_model.specs.declared.places.Place.{Place}
use Rattle.relay_model.specs.Places.{same_place}
use Rattle.scripted_world.specs.declared.lines.PlacedItem.{PlacedItem}
use Rattle.scripted_world.specs.declared.reading.DueRead.{DueRead}
use Rattle.scripted_world.specs.Lines.{used_up}
use Rattle.scripted_world.specs.Reads.{bytes_left, has_more, line_left}

some_or : (b : Bool) (n i : ℕ) → Some i ≡ cond b (Some n) None → i ≡ n
some_or true n i e = cc
some_or false n i e = absurd cc

past_or : (n len : ℕ) (b : Bool) → nat_lt n len ≡ b → None ≡ cond b (Some n) None → len ≤ n
past_or n len true e none = absurd cc
past_or n len false e none = ltb-false n len e

-- an index that is found is the first
pub at_position : {X : Type 0} (test : X → Bool) (xs : List X) (i : ℕ) → Some i ≡ position test xs → i ≡ position_or_len test xs
at_position test xs i found = some_or (nat_lt (position_or_len test xs) (length xs)) (position_or_len test xs) i found

-- where none is found all are passed
pub past_position : {X : Type 0} (test : X → Bool) (xs : List X) → None ≡ position test xs → length xs ≤ position_or_len test xs
past_position test xs none = past_or (position_or_len test xs) (length xs) (nat_lt (position_or_len test xs) (length xs)) refl none

remove_step : {T : Type 0} (b : Bool) (x : PlacedItem T) (xs ys : List (PlacedItem T)) (n m : ℕ) → m ≡ suc n → remove xs n ≡ ys → remove (x ∷ xs) (cond (not b) m 0) ≡ (if b then xs else x ∷ ys)
remove_step true x xs ys n m next e = refl
remove_step false x xs ys n m next e = rw next (ap (λ zs. x ∷ zs) e)

remove_first : {T : Type 0} (xs : List (PlacedItem T)) (p : Place) → remove xs (position_or_len (λ line. same_place line.place p) xs) ≡ used_up xs p
remove_first [] p = refl
remove_first (x ∷ xs) p = remove_step (same_place x.place p) x xs (used_up xs p) (position_or_len (λ line. same_place line.place p) xs) (1 + position_or_len (λ line. same_place line.place p) xs) (omega arith) (remove_first xs p)

-- the item that is found is taken out
pub used_up-at : {T : Type 0} (xs : List (PlacedItem T)) (p : Place) (i : ℕ) → Some i ≡ position (λ line. same_place line.place p) xs → remove xs i ≡ used_up xs p
used_up-at xs p i found = ap (remove xs) (at_position (λ line. same_place line.place p) xs i found) ∙ remove_first xs p

-- past the end nothing is taken out
remove_past : {X : Type 0} (xs : List X) (n : ℕ) → length xs ≤ n → remove xs n ≡ xs
remove_past xs n past = grind (arith, common_steps)

pub used_up-none : {T : Type 0} (xs : List (PlacedItem T)) (p : Place) → None ≡ position (λ line. same_place line.place p) xs → xs ≡ used_up xs p
used_up-none xs p none = sym (remove_past xs (position_or_len (λ line. same_place line.place p) xs) (past_position (λ line. same_place line.place p) xs none)) ∙ remove_first xs p

by_test : {A : Type 0} (b b' : Bool) (x y : A) → b ≡ b' → (if b then x else y) ≡ (if b' then x else y)
by_test b b' x y e = ap (λ t. if t then x else y) e

-- ---- bytes of a read item

kept_step : (b : Bool) (x d : PlacedItem DueRead) (xs ys : List (PlacedItem DueRead)) (n i m : ℕ) → m ≡ suc i → (has_more (get_or xs i d).item.reading n ≡ true → i < length xs → set xs i (line_left (get_or xs i d) n) ≡ ys) → has_more (get_or (x ∷ xs) (cond (not b) m 0) d).item.reading n ≡ true → cond (not b) m 0 < length (x ∷ xs) → set (x ∷ xs) (cond (not b) m 0) (line_left (get_or (x ∷ xs) (cond (not b) m 0) d) n) ≡ (if b then (if has_more x.item.reading n then line_left x n ∷ xs else xs) else x ∷ ys)
kept_step true x d xs ys n i m next ih more within = sym (by_test (has_more x.item.reading n) true (line_left x n ∷ xs) xs more)
kept_step false x d xs ys n i m next ih more within = rw next (ap (λ zs. x ∷ zs) (ih (rw next at more) (let here = rw next at within in omega arith)))

kept_first : (xs : List (PlacedItem DueRead)) (p : Place) (n : ℕ) (d : PlacedItem DueRead) → has_more (get_or xs (position_or_len (λ line. same_place line.place p) xs) d).item.reading n ≡ true → position_or_len (λ line. same_place line.place p) xs < length xs → set xs (position_or_len (λ line. same_place line.place p) xs) (line_left (get_or xs (position_or_len (λ line. same_place line.place p) xs) d) n) ≡ bytes_left xs p n
kept_first [] p n d more within = absurd (omega arith)
kept_first (x ∷ xs) p n d more within = kept_step (same_place x.place p) x d xs (bytes_left xs p n) n (position_or_len (λ line. same_place line.place p) xs) (1 + position_or_len (λ line. same_place line.place p) xs) (omega arith) (kept_first xs p n d) more within

-- the rest of the item that is found stays in its stead
pub bytes_left-kept : (xs : List (PlacedItem DueRead)) (p : Place) (n : ℕ) (d : PlacedItem DueRead) (i : ℕ) → Some i ≡ position (λ line. same_place line.place p) xs → i < length xs → has_more (get_or xs i d).item.reading n ≡ true → set xs i (line_left (get_or xs i d) n) ≡ bytes_left xs p n
bytes_left-kept xs p n d i found within more =
    let here = at_position (λ line. same_place line.place p) xs i found in
    ap (λ j. set xs j (line_left (get_or xs j d) n)) here ∙ kept_first xs p n d (rw here at more) (rw here at within)

gone_step : (b : Bool) (x d : PlacedItem DueRead) (xs ys : List (PlacedItem DueRead)) (n i m : ℕ) → m ≡ suc i → (has_more (get_or xs i d).item.reading n ≡ false → i < length xs → remove xs i ≡ ys) → has_more (get_or (x ∷ xs) (cond (not b) m 0) d).item.reading n ≡ false → cond (not b) m 0 < length (x ∷ xs) → remove (x ∷ xs) (cond (not b) m 0) ≡ (if b then (if has_more x.item.reading n then line_left x n ∷ xs else xs) else x ∷ ys)
gone_step true x d xs ys n i m next ih none within = sym (by_test (has_more x.item.reading n) false (line_left x n ∷ xs) xs none)
gone_step false x d xs ys n i m next ih none within = rw next (ap (λ zs. x ∷ zs) (ih (rw next at none) (let here = rw next at within in omega arith)))

gone_first : (xs : List (PlacedItem DueRead)) (p : Place) (n : ℕ) (d : PlacedItem DueRead) → has_more (get_or xs (position_or_len (λ line. same_place line.place p) xs) d).item.reading n ≡ false → position_or_len (λ line. same_place line.place p) xs < length xs → remove xs (position_or_len (λ line. same_place line.place p) xs) ≡ bytes_left xs p n
gone_first [] p n d none within = absurd (omega arith)
gone_first (x ∷ xs) p n d none within = gone_step (same_place x.place p) x d xs (bytes_left xs p n) n (position_or_len (λ line. same_place line.place p) xs) (1 + position_or_len (λ line. same_place line.place p) xs) (omega arith) (gone_first xs p n d) none within

-- an item of which nothing is left is taken out
pub bytes_left-gone : (xs : List (PlacedItem DueRead)) (p : Place) (n : ℕ) (d : PlacedItem DueRead) (i : ℕ) → Some i ≡ position (λ line. same_place line.place p) xs → i < length xs → has_more (get_or xs i d).item.reading n ≡ false → remove xs i ≡ bytes_left xs p n
bytes_left-gone xs p n d i found within none =
    let here = at_position (λ line. same_place line.place p) xs i found in
    ap (remove xs) here ∙ gone_first xs p n d (rw here at none) (rw here at within)

none_step : (b : Bool) (x : PlacedItem DueRead) (xs ys : List (PlacedItem DueRead)) (n i m : ℕ) → m ≡ suc i → (length xs ≤ i → xs ≡ ys) → length (x ∷ xs) ≤ cond (not b) m 0 → x ∷ xs ≡ (if b then (if has_more x.item.reading n then line_left x n ∷ xs else xs) else x ∷ ys)
none_step true x xs ys n i m next ih past = absurd (omega arith)
none_step false x xs ys n i m next ih past = ap (λ zs. x ∷ zs) (ih (omega arith))

none_first : (xs : List (PlacedItem DueRead)) (p : Place) (n : ℕ) → length xs ≤ position_or_len (λ line. same_place line.place p) xs → xs ≡ bytes_left xs p n
none_first [] p n past = refl
none_first (x ∷ xs) p n past = none_step (same_place x.place p) x xs (bytes_left xs p n) n (position_or_len (λ line. same_place line.place p) xs) (1 + position_or_len (λ line. same_place line.place p) xs) (omega arith) (none_first xs p n) past

-- with no item of the place nothing changes
pub bytes_left-none : (xs : List (PlacedItem DueRead)) (p : Place) (n : ℕ) → None ≡ position (λ line. same_place line.place p) xs → xs ≡ bytes_left xs p n
bytes_left-none xs p n none = none_first xs p n (past_position (λ line. same_place line.place p) xs none)

cut_case : (xs ys : List (PlacedItem DueRead)) (p : Place) (n i : ℕ) (d : PlacedItem DueRead) → Some i ≡ position (λ line. same_place line.place p) xs → i < length xs → ((e : PlacedItem DueRead) → has_more (get_or xs i e).item.reading n ≡ true → ys ≡ set xs i (line_left (get_or xs i e) n)) → ((e : PlacedItem DueRead) → has_more (get_or xs i e).item.reading n ≡ false → ys ≡ remove xs i) → (b : Bool) → has_more (get_or xs i d).item.reading n ≡ b → ys ≡ bytes_left xs p n
cut_case xs ys p n i d found within kept gone true e = kept d e ∙ bytes_left-kept xs p n d i found within e
cut_case xs ys p n i d found within kept gone false e = gone d e ∙ bytes_left-gone xs p n d i found within e

-- the item that is found was cut
pub bytes_left-cut : (xs ys : List (PlacedItem DueRead)) (p : Place) (n i : ℕ) → Some i ≡ position (λ line. same_place line.place p) xs → i < length xs → ((e : PlacedItem DueRead) → has_more (get_or xs i e).item.reading n ≡ true → ys ≡ set xs i (line_left (get_or xs i e) n)) → ((e : PlacedItem DueRead) → has_more (get_or xs i e).item.reading n ≡ false → ys ≡ remove xs i) → ys ≡ bytes_left xs p n
bytes_left-cut [] ys p n i found within kept gone = absurd (omega arith)
bytes_left-cut (x ∷ xs) ys p n i found within kept gone = cut_case (x ∷ xs) ys p n i x found within kept gone (has_more (get_or (x ∷ xs) i x).item.reading n) refl
