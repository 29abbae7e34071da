-- What is printable: numbers, and texts one behind the other.
use Rattle.std.proofs.Common.{◌≡◌, ℕ, zero, suc, ◌+◌, ◌/◌, ◌%◌, ◌<◌, ◌≤◌, Bool, true, false, List, [], ◌∷◌, ◌++◌, refl, ◌∙◌, arith}
use Rattle.std.specs.Prelude.{decimal, ◌==◌, if◌then◌else◌}
use Rattle.std.specs.Fmt.{digit_glyph, digits_onto, digits}
use Rattle.std.specs.Cmp.Derive.{both_true}
use Rattle.std.proofs.lemmas.Bool.{le-leb, lt-ltb}
use Rattle.std.proofs.lemmas.List.Folds.{list_all-append}
use Rattle.place_report.specs.Shown.{is_printable, IsPrintable}

-- a printable text behind another
pub append_printable : (xs ys : List ℕ) → IsPrintable xs → IsPrintable ys → IsPrintable (xs ++ ys)
append_printable xs ys p q = list_all-append is_printable xs ys ∙ both_true p q

-- whichever of two texts it is
pub either_printable : (b : Bool) (xs ys : List ℕ) → IsPrintable xs → IsPrintable ys → IsPrintable (if b then xs else ys)
either_printable true xs ys p q = p
either_printable false xs ys p q = q

digit_printable : (d : ℕ) → d < 10 → is_printable (digit_glyph false d) ≡ true
digit_printable d below =
    let low : 32 ≤ 48 + d = omega arith in
    let high : 48 + d ≤ 126 = omega arith in
    rw (lt-ltb d 10 below, le-leb 32 (48 + d) low, le-leb (48 + d) 126 high) refl

digits_printable : (k n : ℕ) (ds : List ℕ) → IsPrintable ds → IsPrintable (digits_onto k 10 false n ds)
digits_printable zero n ds p = p
digits_printable (suc k) n ds p =
    let below : n % 10 < 10 = omega arith in
    let more : IsPrintable (digit_glyph false (n % 10) ∷ ds) = both_true (digit_printable (n % 10) below) p in
    either_printable (n / 10 == 0) (digit_glyph false (n % 10) ∷ ds) (digits_onto k 10 false (n / 10) (digit_glyph false (n % 10) ∷ ds)) more (digits_printable k (n / 10) (digit_glyph false (n % 10) ∷ ds) more)

-- a number is printable
pub decimal_printable : (n : ℕ) → IsPrintable (decimal n)
unfolding digits
decimal_printable n = digits_printable 64 n [] refl
