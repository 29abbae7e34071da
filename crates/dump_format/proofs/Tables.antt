-- What the tables say of each byte.
use Rattle.std.proofs.Common.{◌≡◌, refl, ap, ◌∙◌, ◌⊎◌, inl, inr, ℕ, zero, suc, ◌+◌, ◌*◌, ◌/◌, ◌%◌, ◌<◌, ◌≤◌, nat_le, Bool, true, false, ◌&&◌, ◌==◌, List, [], ◌∷◌, take, slice_index_or, arith}
use Rattle.std.proofs.lemmas.Bool.{and_parts, cases_lt, eqb-true, false≢true, leb-true}
use Rattle.relay_model.specs.Dumps.{shown_byte}
use Rattle.dump_format.specs.declared.TheConstants.{SHOWN, LENGTHS}

abbrev pub length_at : ℕ → ℕ
length_at b = slice_index_or (slice_index_or LENGTHS (b / 16) []) (b % 16) 0

abbrev pub row_at : ℕ → List ℕ
row_at b = slice_index_or SHOWN (b / 16) []

abbrev pub spelled_at : ℕ → List ℕ
spelled_at b =
    slice_index_or (row_at b) (4 * (b % 16)) 0
    ∷ slice_index_or (row_at b) (4 * (b % 16) + 1) 0
    ∷ slice_index_or (row_at b) (4 * (b % 16) + 2) 0
    ∷ slice_index_or (row_at b) (4 * (b % 16) + 3) 0
    ∷ []

abbrev same : List ℕ → List ℕ → Bool
same [] [] = true
same (x ∷ xs) (y ∷ ys) = x == y && same xs ys
same xs ys = false

same_is : (xs ys : List ℕ) → same xs ys ≡ true → xs ≡ ys
same_is [] [] e = refl
same_is [] (y ∷ ys) e = absurd (false≢true e)
same_is (x ∷ xs) [] e = absurd (false≢true e)
same_is (x ∷ xs) (y ∷ ys) e =
    let p = and_parts (x == y) (same xs ys) e in
    let a : x ≡ y = eqb-true x y p.0 in
    let b = same_is xs ys p.1 in
    λ i. a i ∷ b i

abbrev right : ℕ → Bool
right b = nat_le (length_at b) 4 && same (take (length_at b) (spelled_at b)) (shown_byte b)

abbrev all_right : ℕ → Bool
all_right zero = true
all_right (suc n) = right n && all_right n

right_at : (n b : ℕ) → all_right n ≡ true → b < n → right b ≡ true
right_at zero b e l = absurd (omega (arith, l))
right_at (suc n) b e l = go (cases_lt b n) (right_at n b (and_parts (right n) (all_right n) e).1)
  where
    go : (b < n) ⊎ (n ≤ b) → (b < n → right b ≡ true) → right b ≡ true
    go (inl h) below = below h
    go (inr h) below = let k : b ≡ n = omega (arith, l, h) in ap right k ∙ (and_parts (right n) (all_right n) e).0

all_256 : all_right 256 ≡ true
all_256 = refl

pub table_few : (b : ℕ) → b < 256 → length_at b ≤ 4
table_few b l = leb-true (length_at b) 4 (and_parts (nat_le (length_at b) 4) (same (take (length_at b) (spelled_at b)) (shown_byte b)) (right_at 256 b all_256 l)).0

pub table_shows : (b : ℕ) → b < 256 → take (length_at b) (spelled_at b) ≡ shown_byte b
table_shows b l = same_is (take (length_at b) (spelled_at b)) (shown_byte b) (and_parts (nat_le (length_at b) 4) (same (take (length_at b) (spelled_at b)) (shown_byte b)) (right_at 256 b all_256 l)).1
