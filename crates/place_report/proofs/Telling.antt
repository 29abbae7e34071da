-- What is shown tells the bytes.
use Rattle.std.proofs.Common.{◌≡◌, ℕ, ◌/◌, ◌%◌, ◌<◌, Bool, true, false, List, [], ◌∷◌, ◌++◌, refl, sym, ap, ◌∙◌, subst, arith}
use Rattle.std.proofs.lemmas.Bool.Decides.{nat_tests}
use Rattle.relay_model.specs.Dumps.{hex_digit}
use Rattle.place_report.specs.Shown.{is_plain, escaped, shown_byte, shown, ShownTells}

-- the digits of numbers below 16 differ
digits_differ : (a b : ℕ) → a < 16 → b < 16 → hex_digit a ≡ hex_digit b → a ≡ b
digits_differ a b p q e = grind (arith, nat_tests)

bytes_differ : (a b : ℕ) → a < 256 → b < 256 → hex_digit (a / 16) ≡ hex_digit (b / 16) → hex_digit (a % 16) ≡ hex_digit (b % 16) → a ≡ b
bytes_differ a b p q high low =
    let first : a / 16 ≡ b / 16 = digits_differ (a / 16) (b / 16) (omega arith) (omega arith) high in
    let second : a % 16 ≡ b % 16 = digits_differ (a % 16) (b % 16) (omega arith) (omega arith) low in
    omega arith

-- a plain byte is no backslash
plain_differs : (a : ℕ) → is_plain a ≡ true → a ≡ 92 → ⊥
plain_differs a plain e = let no : false ≡ true = subst (λ b. is_plain b ≡ true) e plain in cc

shown_plain : (a : ℕ) → is_plain a ≡ true → shown_byte a ≡ a ∷ []
shown_plain a plain = rw plain refl

shown_escaped : (a : ℕ) → is_plain a ≡ false → shown_byte a ≡ escaped a
shown_escaped a other = rw other refl

-- the first bytes of two texts that look alike are the same, and so is how the rest looks
first_told : (t u : Bool) (a b : ℕ) (xs ys : List ℕ) → is_plain a ≡ t → is_plain b ≡ u → a < 256 → b < 256 → shown_byte a ++ xs ≡ shown_byte b ++ ys → (a ≡ b) × (xs ≡ ys)
first_told true true a b xs ys p q m n e =
    let same : a ∷ xs ≡ b ∷ ys = sym (ap (λ (x : List ℕ). x ++ xs) (shown_plain a p)) ∙ e ∙ ap (λ (x : List ℕ). x ++ ys) (shown_plain b q) in
    (cc, cc)
first_told true false a b xs ys p q m n e =
    let same : a ∷ xs ≡ escaped b ++ ys = sym (ap (λ (x : List ℕ). x ++ xs) (shown_plain a p)) ∙ e ∙ ap (λ (x : List ℕ). x ++ ys) (shown_escaped b q) in
    let slash : a ≡ 92 = cc in
    absurd (plain_differs a p slash)
first_told false true a b xs ys p q m n e =
    let same : escaped a ++ xs ≡ b ∷ ys = sym (ap (λ (x : List ℕ). x ++ xs) (shown_escaped a p)) ∙ e ∙ ap (λ (x : List ℕ). x ++ ys) (shown_plain b q) in
    let slash : b ≡ 92 = cc in
    absurd (plain_differs b q slash)
first_told false false a b xs ys p q m n e =
    let same : escaped a ++ xs ≡ escaped b ++ ys = sym (ap (λ (x : List ℕ). x ++ xs) (shown_escaped a p)) ∙ e ∙ ap (λ (x : List ℕ). x ++ ys) (shown_escaped b q) in
    let high : hex_digit (a / 16) ≡ hex_digit (b / 16) = cc in
    let low : hex_digit (a % 16) ≡ hex_digit (b % 16) = cc in
    let rest : xs ≡ ys = cc in
    (bytes_differ a b m n high low, rest)

some_shown : (t : Bool) (a : ℕ) (xs : List ℕ) → is_plain a ≡ t → [] ≡ shown_byte a ++ xs → ⊥
some_shown true a xs p e =
    let same : [] ≡ a ∷ xs = e ∙ ap (λ (x : List ℕ). x ++ xs) (shown_plain a p) in cc
some_shown false a xs p e =
    let same : [] ≡ escaped a ++ xs = e ∙ ap (λ (x : List ℕ). x ++ xs) (shown_escaped a p) in cc

pub shown_tells : ShownTells
shown_tells [] [] p q e = refl
shown_tells [] (b ∷ ys) p q e = absurd (some_shown (is_plain b) b (shown ys) refl e)
shown_tells (a ∷ xs) [] p q e = absurd (some_shown (is_plain a) a (shown xs) refl (sym e))
shown_tells (a ∷ xs) (b ∷ ys) p q e =
    let told = first_told (is_plain a) (is_plain b) a b (shown xs) (shown ys) refl refl p.0 q.0 e in
    let rest : xs ≡ ys = shown_tells xs ys p.1 q.1 told.1 in
    let first : a ≡ b = told.0 in
    cc
