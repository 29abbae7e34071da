-- What is left to read of a number's digits.
use Rattle.std.proofs.Common.{◌≡◌, ℕ, suc, ◌+◌, ◌*◌, ◌^◌, ◌<◌, ◌≤◌, Bool, true, false, ◌&&◌, List, [], ◌∷◌, length, get_or, drop, Option, Some, None, refl, sym, ap, ◌∙◌, arith, add-one, drop-cons, ltb, subst, lit<}
use Rattle.std.proofs.Math.Nat.{pow-zero, pow-suc, one-le-pow, mul-le-mul_left, pow-le-pow_right}
use Rattle.std.proofs.lemmas.Bool.{le-ltb, lt-ltb, ltb-true}
use Rattle.std.proofs.lemmas.List.{drop_all}
use Rattle.std.specs.Char.{digit_value, is_digit}
use Rattle.option_table.specs.Parts.{only_if}
use Rattle.option_table.specs.Numbers.{all_digits, digits_sum, number_in}

-- the number, where `value` was read and the rest is still to come
abbrev pub number_on : ℕ → ℕ → List ℕ → Option ℕ
number_on radix value rest =
    only_if (all_digits radix rest && ltb (value * radix ^ length rest + digits_sum radix rest) (2 ^ 64))
    (value * radix ^ length rest + digits_sum radix rest)

pub begins : (radix : ℕ) (text : List ℕ) → number_in radix text ≡ number_on radix 0 text
unfolding number_in
begins radix text = grind arith

-- one more digit
weight : (v d radix n rest : ℕ) → v * radix ^ suc n + (d * radix ^ n + rest) ≡ (v * radix + d) * radix ^ n + rest
weight v d radix n rest = rw (pow-suc radix n) (omega arith)

passed : (t b : Bool) (m n : ℕ) → t ≡ true → m ≡ n → only_if ((t && b) && ltb m (2 ^ 64)) m ≡ only_if (b && ltb n (2 ^ 64)) n
passed t b m n e f = rw (e, f) refl

refused : (t b : Bool) (m : ℕ) → 2 ^ 64 ≤ m → only_if ((t && b) && ltb m (2 ^ 64)) m ≡ None
refused false b m great = refl
refused true false m great = refl
refused true true m great = rw (le-ltb m (2 ^ 64) great) refl

goes_on_at : (radix v c d : ℕ) (cs : List ℕ) → is_digit c radix ≡ true → d ≡ digit_value c → number_on radix v (c ∷ cs) ≡ number_on radix (v * radix + d) cs
goes_on_at radix v c d cs e f =
    passed (is_digit c radix) (all_digits radix cs) _ _ e
    (weight v (digit_value c) radix (length cs) (digits_sum radix cs) ∙ ap (λ x. (v * radix + x) * radix ^ length cs + digits_sum radix cs) (sym f))

greater : (m power rest : ℕ) → 1 ≤ power → m ≤ m * power + rest
greater m power rest some = omega (arith, mul-le-mul_left m some)

great_sum : (v d radix n rest : ℕ) → 0 < radix → 2 ^ 64 ≤ v * radix + d → 2 ^ 64 ≤ v * radix ^ suc n + (d * radix ^ n + rest)
great_sum v d radix n rest some great =
    let least = greater (v * radix + d) (radix ^ n) rest (one-le-pow n radix some) in
    omega (arith, weight v d radix n rest, least)

stopped : (t b : Bool) (m : ℕ) → t ≡ false → only_if ((t && b) && ltb m (2 ^ 64)) m ≡ None
stopped t b m e = rw e refl

-- at the next digit
pub goes_on : (radix v d i : ℕ) (text : List ℕ) → i < length text → is_digit (get_or text i 0) radix ≡ true → d ≡ digit_value (get_or text i 0) → number_on radix v (drop i text) ≡ number_on radix (v * radix + d) (drop (i + 1) text)
goes_on radix v d i text within e f = rw (drop-cons text i 0 within) (rw (add-one i) (goes_on_at radix v (get_or text i 0) d (drop (suc i) text) e f))

-- at another byte
pub no_digit : (radix v i : ℕ) (text : List ℕ) → i < length text → is_digit (get_or text i 0) radix ≡ false → number_on radix v (drop i text) ≡ None
no_digit radix v i text within e = rw (drop-cons text i 0 within) (stopped (is_digit (get_or text i 0) radix) _ _ e)

-- at a digit that makes the number too great
pub too_great : (radix v d i : ℕ) (text : List ℕ) → i < length text → 0 < radix → d ≡ digit_value (get_or text i 0) → 2 ^ 64 ≤ v * radix + d → number_on radix v (drop i text) ≡ None
too_great radix v d i text within some e great =
    rw (drop-cons text i 0 within) (refused (is_digit (get_or text i 0) radix) _ _ (great_sum v (digit_value (get_or text i 0)) radix _ _ some (subst (λ x. 2 ^ 64 ≤ v * radix + x) e great)))

finished : (m v : ℕ) → m ≡ v → v < 2 ^ 64 → only_if (true && ltb m (2 ^ 64)) m ≡ Some v
finished m v e small = rw e (rw (lt-ltb v (2 ^ 64) small) refl)

-- after the last digit
pub ends : (radix v i : ℕ) (text : List ℕ) → length text ≤ i → v < 2 ^ 64 → number_on radix v (drop i text) ≡ Some v
ends radix v i text past small =
    rw (drop_all i text past) (finished _ v (rw (pow-zero radix) (omega arith)) small)

-- what the checked product and sum say
pub above : (v r radix d : ℕ) → r ≡ radix → ¬ (v * r < 2 ^ 64) → 2 ^ 64 ≤ v * radix + d
above v r radix d e great =
    let P : ℕ → Type 0 = λ x. ¬ (v * x < 2 ^ 64) in
    let h : ¬ (v * radix < 2 ^ 64) = subst P e great in
    omega (arith, h)

pub above_sum : (v r radix m x d : ℕ) → r ≡ radix → m ≡ v * r → x ≡ d → ¬ (m + x < 2 ^ 64) → 2 ^ 64 ≤ v * radix + d
above_sum v r radix m x d e f g great =
    let k : m ≡ v * radix = f ∙ ap (λ y. v * y) e in
    omega (arith, k, g, great)

pub sum_is : (v r radix m x d value : ℕ) → r ≡ radix → m ≡ v * r → x ≡ d → value ≡ m + x → v * radix + d ≡ value
sum_is v r radix m x d value e f g h =
    let k : m ≡ v * radix = f ∙ ap (λ y. v * y) e in
    omega (arith, k, g, h)

-- as many digits as there are hold no more than this
below_sum : (d radix power rest : ℕ) → d < radix → rest < power → d * power + rest < power * radix
below_sum d radix power rest small less = let h = mul-le-mul_left power small in omega (arith, h)

both : (a b : Bool) → (a && b) ≡ true → (a ≡ true) × (b ≡ true)
both true true e = (refl, refl)
both true false e = cc
both false b e = cc

pub digits_sum_lt : (radix : ℕ) (text : List ℕ) → all_digits radix text ≡ true → digits_sum radix text < radix ^ length text
digits_sum_lt radix [] e = rw (pow-zero radix) (omega arith)
digits_sum_lt radix (c ∷ cs) e =
    let parts = both (is_digit c radix) (all_digits radix cs) e in
    rw (pow-suc radix (length cs)) (below_sum (digit_value c) radix (radix ^ length cs) (digits_sum radix cs) (ltb-true _ _ parts.0) (digits_sum_lt radix cs parts.1))

from_some : (a b : Bool) (m n : ℕ) → Some n ≡ only_if (a && b) m → (a ≡ true) × (n ≡ m)
from_some true true m n e = (refl, cc)
from_some true false m n e = cc
from_some false b m n e = cc

pub number_lt : (radix n : ℕ) (text : List ℕ) → Some n ≡ number_in radix text → n < radix ^ length text
unfolding number_in
number_lt radix n text e =
    let parts = from_some (all_digits radix text) (ltb (digits_sum radix text) (2 ^ 64)) (digits_sum radix text) n e in
    subst (λ x. x < radix ^ length text) (sym parts.1) (digits_sum_lt radix text parts.0)

pub pow_ten : (k : ℕ) → k ≤ 6 → 10 ^ k ≤ 1000000
pow_ten k most = pow-le-pow_right (lit< tt) most

pub product_fits : (a b : ℕ) → a ≤ 1000000 → b ≤ 1000000 → a * b ≤ 1000000000000
product_fits a b small few = grind arith
