-- The bytes before the first escape byte, of two lists joined and as a search finds them.
use Rattle.std.proofs.Common.{◌≡◌, ℕ, suc, ◌<◌, ◌≤◌, Bool, true, false, not, ◌||◌, eqb, List, [], ◌∷◌, ◌++◌, length, take, get_or, Option, None, Some, refl, sym, ap, subst, ◌∙◌, arith}
use Rattle.std.specs.List.{before_first, list_any, position_or_len}
use Rattle.std.proofs.lemmas.Bool.{eqb-false, true≢false}
use Rattle.std.proofs.lemmas.List.{append-nil, length-take}
use Rattle.std.proofs.lemmas.List.Folds.{list_any-append, list_any_at}
use Rattle.std.proofs.lemmas.List.Sums.{position_or_len_is, take_while-cons}
use Rattle.memchr.specs.Find.{IsFirstByte, is_byte}
use Rattle.relay_model.specs.Conversions.{before_escape, holds_escape}

pub or_false : (a b : Bool) → (a || b) ≡ false → (a ≡ false) × (b ≡ false)
or_false false b none = (refl, none)
or_false true b none = absurd (true≢false none)

pub not_true : (b : Bool) → (b ≡ true → ⊥) → b ≡ false
not_true false no_way = refl
not_true true no_way = absurd (no_way refl)

before_first-append : (p : ℕ → Bool) (xs ys : List ℕ) → list_any p xs ≡ false → before_first p (xs ++ ys) ≡ xs ++ before_first p ys
before_first-append p [] ys lacks = refl
before_first-append p (x ∷ xs) ys lacks =
    let parts = or_false (p x) (list_any p xs) lacks in
    take_while-cons (λ b. not (p b)) x (xs ++ ys) ∙ rw parts.0 (ap (λ l. x ∷ l) (before_first-append p xs ys parts.1))

before_first-all : (p : ℕ → Bool) (xs : List ℕ) → list_any p xs ≡ false → before_first p xs ≡ xs
before_first-all p xs lacks = ap (before_first p) (sym (append-nil xs)) ∙ before_first-append p xs [] lacks ∙ append-nil xs

pub before_escape-append : (escape : Option ℕ) (xs ys : List ℕ) → holds_escape escape xs ≡ false → before_escape escape (xs ++ ys) ≡ xs ++ before_escape escape ys
before_escape-append None xs ys lacks = refl
before_escape-append (Some e) xs ys lacks = before_first-append (λ b. eqb b e) xs ys lacks

pub before_escape-all : (escape : Option ℕ) (xs : List ℕ) → holds_escape escape xs ≡ false → before_escape escape xs ≡ xs
before_escape-all None xs lacks = refl
before_escape-all (Some e) xs lacks = before_first-all (λ b. eqb b e) xs lacks

pub holds_escape-append : (escape : Option ℕ) (xs ys : List ℕ) → holds_escape escape (xs ++ ys) ≡ (holds_escape escape xs || holds_escape escape ys)
holds_escape-append None xs ys = refl
holds_escape-append (Some e) xs ys = list_any-append (λ b. eqb b e) xs ys

none_any : (p : ℕ → Bool) (xs : List ℕ) → ((k : ℕ) → k < length xs → p (get_or xs k 0) ≡ true → ⊥) → list_any p xs ≡ false
none_any p [] nowhere = refl
none_any p (x ∷ xs) nowhere =
    let first = not_true (p x) (nowhere 0 (omega arith)) in
    rw first (none_any p xs (λ k below. nowhere (suc k) (omega arith)))

-- a search that finds no escape byte
pub no_escape : (e : ℕ) (bytes : List ℕ) (r : Option ℕ) → r ≡ None → IsFirstByte (is_byte e) bytes r → (before_escape (Some e) bytes ≡ bytes) × (holds_escape (Some e) bytes ≡ false)
no_escape e bytes r is first =
    let nowhere = subst (λ o. IsFirstByte (is_byte e) bytes o) is first in
    let lacks = none_any (λ b. eqb b e) bytes (λ k below. nowhere k (omega arith) below) in
    (before_first-all (λ b. eqb b e) bytes lacks, lacks)

-- a search that finds one at this place
pub escape_found : (e : ℕ) (bytes : List ℕ) (r : Option ℕ) (at : ℕ) → r ≡ Some at → IsFirstByte (is_byte e) bytes r → (before_escape (Some e) bytes ≡ take at bytes) × (holds_escape (Some e) bytes ≡ true) × (at < length bytes)
escape_found e bytes r at is first =
    let found = subst (λ o. IsFirstByte (is_byte e) bytes o) is first in
    let place = position_or_len_is (λ b. eqb b e) bytes at 0 (omega (arith, found.0.high)) (λ k below. not_true (eqb (get_or bytes k 0) e) (found.0.before k (omega arith) below)) (λ _. found.1) in
    (ap (λ n. take n bytes) place, list_any_at (λ b. eqb b e) bytes at 0 found.0.high found.1, found.0.high)

pub length-before_escape : (escape : Option ℕ) (xs : List ℕ) → length (before_escape escape xs) ≤ length xs
length-before_escape None xs = omega arith
length-before_escape (Some e) xs = omega (arith, length-take (position_or_len (λ b. eqb b e) xs) xs)

pub is_nonempty : (b : Bool) (xs : List ℕ) → b ≡ eqb (length xs) 0 → b ≡ false → 0 < length xs
is_nonempty b xs tests fails = let other = eqb-false (length xs) 0 (sym tests ∙ fails) in omega arith
