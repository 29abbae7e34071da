-- Numbers: what is read was spelt so, and what is spelt is read.
use Rattle.std.proofs.Common.{◌≡◌, ◌≢◌, ℕ, zero, suc, ◌-◌, ◌^◌, ◌<◌, ◌≤◌, Bool, true, false, ◌&&◌, ◌||◌, not, eqb, ltb, leb, List, [], ◌∷◌, length, get_or, drop, Option, Some, None, option_map, Result, Ok, Err, refl, sym, ap, ◌∙◌, subst, arith, lit<, lit≤, inl, inr}
use Rattle.std.specs.Result.{OkIff, MatchResult, result_ok}
use Rattle.std.specs.Borrow.{Bor}
use Rattle.std.specs.Str.{IsUtf8, all_ascii_digits, bytes_eq}
use Rattle.std.specs.Str.Parse.{AllDigits, digits_value, ParsesUnsigned}
use Rattle.std.proofs.lemmas.Bool.{lt-ltb, le-leb, ltb-true, leb-true, eqb-true, eq-eqb, ne_eqb, and_parts, and_from, and_left, or_left}
use Rattle.std.proofs.lemmas.Option.{same_Some}
use Rattle.std.proofs.lemmas.Str.{IsUtf8-from_ascii}
use Rattle.std.proofs.lemmas.Str.Parse.{IsNumeralModel, numerals_by_value, tells_all_ascii_digits, parse_plain, digit_from_value}
use Rattle.std.proofs.lemmas.Fmt.{IsAscii-from_digits, decimal_is_IsNumeral, decimal-digits_value, decimal_digit, decimal_nonempty, first_decimal, digits_decimal, digits_value-decimal}
use Rattle.std.specs.Prelude.{ℤ, pos, negsuc, neg_ℤ, FitsSigned, codes}
use Rattle.std.specs.Int.{w32}
use Rattle.std.specs.Fmt.{decimal, signed_decimal}
use Rattle.journal_text.specs.Fields.{optional_text}
use Rattle.journal_text.specs.Ranges.{IsMoment, IsOptionalMoment}
use Rattle.journal_text.specs.Reading.{only_if, is_plain, number_in, optional_in, negative_in, status_in}
use Rattle.journal_text.proofs.ByteLemmas.{chosen, map_some, bind_some, only_some, is_over, is_over-weaken, same_bytes}

pub own : IsNumeralModel (λ ds. all_ascii_digits ds ≡ true) (digits_value 10)
own = numerals_by_value _ tells_all_ascii_digits

-- the number of these digits, where it has 64 bits
abbrev pub value_in : List ℕ → Option ℕ
value_in bs = only_if (all_ascii_digits bs && leb 1 (length bs) && ltb (digits_value 10 bs) (2 ^ 64)) (digits_value 10 bs)

none_unless : (a b c : Bool) (n : ℕ) → (a ≡ true → ⊥) → None ≡ only_if (a && b && c) n
none_unless true b c n h = absurd (h refl)
none_unless false b c n h = refl

pub no_text : (bs : List ℕ) → ¬ (IsUtf8 bs) → None ≡ value_in bs
no_text bs h = none_unless (all_ascii_digits bs) _ _ _ (λ digits. h (IsUtf8-from_ascii bs (IsAscii-from_digits bs (own.to bs digits))))

some_where : (a b c : Bool) (n : ℕ) → a ≡ true → b ≡ true → c ≡ true → Some n ≡ only_if (a && b && c) n
some_where a b c n e f g = rw (e, f, g) refl

none_where : (a b c : Bool) (n : ℕ) → ((a ≡ true) → (b ≡ true) → (c ≡ true) → ⊥) → None ≡ only_if (a && b && c) n
none_where true true true n h = absurd (h refl refl refl)
none_where true true false n h = refl
none_where true false c n h = refl
none_where false b c n h = refl

from_parts : {E : Type 0} (bs : List ℕ) (r : Result ℕ E) → OkIff r ((all_ascii_digits bs ≡ true) × (0 < length bs) × (digits_value 10 bs < 2 ^ 64)) (digits_value 10 bs) → result_ok r ≡ value_in bs
from_parts bs (Ok x) h = ap Some h.1 ∙ some_where (all_ascii_digits bs) (leb 1 (length bs)) (ltb (digits_value 10 bs) (2 ^ 64)) _ h.0.0 (le-leb _ _ h.0.1) (lt-ltb _ _ h.0.2)
from_parts bs (Err e) h = none_where (all_ascii_digits bs) (leb 1 (length bs)) (ltb (digits_value 10 bs) (2 ^ 64)) _ (λ a b c. h (a, leb-true _ _ b, ltb-true _ _ c))

pub parse_value : {E : Type 0} (bs : List ℕ) (r : Result ℕ E) → ParsesUnsigned 64 10 bs r → get_or bs 0 0 ≢ 43 → result_ok r ≡ value_in bs
parse_value bs r h no_plus = from_parts bs r (parse_plain own 64 bs r h no_plus)

-- what a failed conversion to text says, and a successful one
pub no_text_from : {T E N : Type 0} (P : T → Type 0) (Q : E → Type 0) (r : Result T E) → None ≡ result_ok r → MatchResult r P (λ e. N × Q e) → N
no_text_from P Q (Ok x) e h = absurd cc
no_text_from P Q (Err d) e h = h.0

pub text_from : {E : Type 0} (U : Type 0) (bs : List ℕ) (t : Bor (List ℕ)) (Q : E → Type 0) (r : Result (Bor (List ℕ)) E) → Some t ≡ result_ok r → MatchResult r (λ s. (s.now ≡ bs) × U) Q → t.now ≡ bs
text_from U bs t Q (Ok x) e h = let same : t ≡ x = cc in ap (λ (s : Bor (List ℕ)). s.now) same ∙ h.0
text_from U bs t Q (Err d) e h = absurd cc

pub parse_value_of : {E : Type 0} (t bs : List ℕ) (r : Result ℕ E) → t ≡ bs → ParsesUnsigned 64 10 t r → get_or bs 0 0 ≢ 43 → result_ok r ≡ value_in bs
parse_value_of t bs r e h no_plus = parse_value bs r (subst (λ (x : List ℕ). ParsesUnsigned 64 10 x r) e h) no_plus

-- ---- decimal numbers

digits_over : (ds : List ℕ) → AllDigits 10 ds → is_over 47 ds ≡ true
digits_over [] h = refl
digits_over (d ∷ ds) h = and_from (ltb 47 d) (is_over 47 ds) (lt-ltb 47 d (omega (arith, (digit_from_value d h.0).0))) (digits_over ds h.1)

pub decimal_over : (n : ℕ) → n < 2 ^ 64 → is_over 47 (decimal n) ≡ true
decimal_over n small = digits_over (decimal n) (decimal_is_IsNumeral n small).0.1

first_is : (x len : ℕ) → (not (eqb x 48) || eqb len 1) ≡ true → x ≡ 48 → len ≡ 1
first_is x len e is = eqb-true len 1 (rw (eq-eqb x 48 is) at e)

pub number_takes : (greatest n : ℕ) (text : List ℕ) → greatest < 2 ^ 64 → number_in greatest text ≡ Some n → (text ≡ decimal n) × (n ≤ greatest)
unfolding number_in
number_takes greatest n text small e =
    let h = only_some (is_plain text && leb (digits_value 10 text) greatest) (digits_value 10 text) n e in
    let parts = and_parts (is_plain text) (leb (digits_value 10 text) greatest) h.0 in
    let plain = and_parts (all_ascii_digits text && leb 1 (length text)) (not (eqb (get_or text 0 0) 48) || eqb (length text) 1) parts.0 in
    let digits = and_parts (all_ascii_digits text) (leb 1 (length text)) plain.0 in
    let least : digits_value 10 text ≤ greatest = leb-true _ _ parts.1 in
    let spelt : decimal (digits_value 10 text) ≡ text =
    decimal-digits_value own text digits.0 (omega (arith, leb-true 1 (length text) digits.1)) (first_is (get_or text 0 0) (length text) plain.1) (omega arith) in
    (sym spelt ∙ ap decimal h.1, omega (arith, h.1))

first_of : (n : ℕ) → n < 2 ^ 64 → (not (eqb (get_or (decimal n) 0 0) 48) || eqb (length (decimal n)) 1) ≡ true
first_of zero small = rw (decimal_digit 0 (lit< tt)) refl
first_of (suc n) small =
    let above : 48 < get_or (decimal (suc n)) 0 0 = first_decimal (suc n) (omega arith) small in
    or_left (not (eqb (get_or (decimal (suc n)) 0 0) 48)) _ (ap not (ne_eqb (get_or (decimal (suc n)) 0 0) 48 (λ same. omega arith)))

pub number_again : (greatest n : ℕ) → greatest < 2 ^ 64 → n ≤ greatest → number_in greatest (decimal n) ≡ Some n
unfolding number_in
number_again greatest n small le =
    let fits : n < 2 ^ 64 = omega arith in
    let digits : all_ascii_digits (decimal n) ≡ true = digits_decimal own n fits in
    let some : leb 1 (length (decimal n)) ≡ true = le-leb 1 (length (decimal n)) (decimal_nonempty n fits) in
    let first = first_of n fits in
    let value : digits_value 10 (decimal n) ≡ n = digits_value-decimal own n fits in
    rw (digits, some, first, value, le-leb n greatest le) refl

-- ---- a number or none

no_dash : (text : List ℕ) → is_over 47 text ≡ true → bytes_eq text (codes "-") ≡ false
no_dash [] e = refl
no_dash (x ∷ xs) e =
    let p = and_parts (ltb 47 x) (is_over 47 xs) e in
    let above : 47 < x = ltb-true 47 x p.0 in
    and_left (eqb x 45) _ (ne_eqb x 45 (λ same. omega arith))

pub optional_again : (o : Option ℕ) → IsOptionalMoment o → optional_in (optional_text o) ≡ Some o
unfolding optional_in
optional_again None fits = refl
optional_again (Some n) fits =
    rw (no_dash (decimal n) (decimal_over n fits)) (ap (option_map Some) (number_again (2 ^ 64 - 1) n (lit< tt) (omega (arith, fits))))

pub optional_takes : (text : List ℕ) (o : Option ℕ) → optional_in text ≡ Some o → (text ≡ optional_text o) × IsOptionalMoment o
unfolding optional_in
optional_takes text o e =
    elim (chosen (bytes_eq text (codes "-")) (Some None) (option_map Some (number_in (2 ^ 64 - 1) text)) (Some o) e) [
      | inl h ↦ (let is : None ≡ o = same_Some _ _ h.1 in subst (λ (x : Option ℕ). (text ≡ optional_text x) × IsOptionalMoment x) is (same_bytes text (codes "-") h.0, tt))
      | inr h ↦ (let m = map_some Some (number_in (2 ^ 64 - 1) text) o h.1 in
          let t = number_takes (2 ^ 64 - 1) m.0 text (lit< tt) m.1 in
          let fits : IsMoment m.0 = omega (arith, t.1) in
          subst (λ (x : Option ℕ). (text ≡ optional_text x) × IsOptionalMoment x) m.2 (t.0, fits))
    ]

pub optional_over : (o : Option ℕ) → IsOptionalMoment o → is_over 44 (optional_text o) ≡ true
optional_over None fits = refl
optional_over (Some n) fits = is_over-weaken 44 47 (decimal n) (lit≤ tt) (decimal_over n fits)

-- ---- exit statuses

no_minus : (text : List ℕ) → is_over 47 text ≡ true → eqb (get_or text 0 0) 45 ≡ false
no_minus [] e = refl
no_minus (x ∷ xs) e =
    let p = and_parts (ltb 47 x) (is_over 47 xs) e in
    let above : 47 < x = ltb-true 47 x p.0 in
    ne_eqb x 45 (λ same. omega arith)

pub status_again : (z : ℤ) → FitsSigned w32 z → status_in (signed_decimal z) ≡ Some z
unfolding status_in
status_again (pos n) fits =
    let small : n ≤ 2 ^ 31 - 1 = omega (arith, fits) in
    rw (no_minus (decimal n) (decimal_over n (omega arith))) (ap (option_map pos) (number_again (2 ^ 31 - 1) n (lit< tt) small))
status_again (negsuc n) fits =
    let small : suc n ≤ 2 ^ 31 = omega (arith, fits) in
    rw (number_again (2 ^ 31) (suc n) (lit< tt) small) (rw (le-leb 1 (suc n) (omega arith)) refl)

negative_is : (n : ℕ) (z : ℤ) → 1 ≤ n → n ≤ 2 ^ 31 → neg_ℤ (pos n) ≡ z → ((45 ∷ decimal n) ≡ signed_decimal z) × FitsSigned w32 z
negative_is zero z some small is = absurd (omega arith)
negative_is (suc n) z some small is = subst (λ (y : ℤ). ((45 ∷ decimal (suc n)) ≡ signed_decimal y) × FitsSigned w32 y) is (refl, record { sfits = omega arith })

negative_takes : (digits : List ℕ) (z : ℤ) → negative_in digits ≡ Some z → ((45 ∷ digits) ≡ signed_decimal z) × FitsSigned w32 z
negative_takes digits z e =
    let b = bind_some (number_in (2 ^ 31) digits) (λ n. only_if (leb 1 n) (neg_ℤ (pos n))) z e in
    let t = number_takes (2 ^ 31) b.0 digits (lit< tt) b.1 in
    let g = only_some (leb 1 b.0) (neg_ℤ (pos b.0)) z b.2 in
    let h = negative_is b.0 z (leb-true 1 b.0 g.0) t.1 g.1 in
    (ap (λ (ds : List ℕ). 45 ∷ ds) t.0 ∙ h.0, h.1)

minus_first : (text : List ℕ) → eqb (get_or text 0 0) 45 ≡ true → text ≡ 45 ∷ drop 1 text
minus_first [] e = absurd cc
minus_first (x ∷ xs) e = ap (λ (y : ℕ). y ∷ xs) (eqb-true x 45 e)

pub status_takes : (text : List ℕ) (z : ℤ) → status_in text ≡ Some z → (text ≡ signed_decimal z) × FitsSigned w32 z
unfolding status_in
status_takes text z e =
    elim (chosen (eqb (get_or text 0 0) 45) (negative_in (drop 1 text)) (option_map pos (number_in (2 ^ 31 - 1) text)) (Some z) e) [
      | inl h ↦ (let t = negative_takes (drop 1 text) z h.1 in (minus_first text h.0 ∙ t.0, t.1))
      | inr h ↦ (let m = map_some pos (number_in (2 ^ 31 - 1) text) z h.1 in
          let t = number_takes (2 ^ 31 - 1) m.0 text (lit< tt) m.1 in
          let fits : m.0 < 2 ^ 31 = omega (arith, t.1) in
          subst (λ (y : ℤ). (text ≡ signed_decimal y) × FitsSigned w32 y) m.2 (t.0, record { sfits = fits }))
    ]

pub signed_over : (z : ℤ) → FitsSigned w32 z → is_over 44 (signed_decimal z) ≡ true
signed_over (pos n) fits = is_over-weaken 44 47 (decimal n) (lit≤ tt) (decimal_over n (omega (arith, fits)))
signed_over (negsuc n) fits = is_over-weaken 44 47 (decimal (suc n)) (lit≤ tt) (decimal_over (suc n) (omega (arith, fits)))
