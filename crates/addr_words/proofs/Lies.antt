-- The tokens of a text lie in it one after the other.
use Rattle.std.proofs.Common.{◌≡◌, ℕ, ◌+◌, Bool, true, false, cond, List, [], ◌∷◌, ◌++◌, length, Option, Some, None, Result, Ok, Err, refl, sym, ap, subst, ◌∙◌, inl, inr, arith, nat_lt}
use Rattle.std.specs.Prelude.{◌==◌, ◌&&◌}
use Rattle.std.proofs.lemmas.Bool.{eqb-true}
use Rattle.addr_words.specs.declared.token_list.Token.{Token}
use Rattle.addr_words.specs.declared.token_list.TokenKind.{TokenKind}
use Rattle.addr_words.specs.declared.token_list.TokenKind.TheVariants.{Byte, Colon, Comma, Dual, Equals}
use Rattle.addr_words.specs.declared.nesting.Enclosure.{Enclosure}
use Rattle.addr_words.specs.declared.nesting.Enclosure.TheVariants.{DoubleQuote, SingleQuote, Bracket}
use Rattle.addr_words.specs.declared.nesting.OpenEnclosure.{OpenEnclosure}
use Rattle.addr_words.specs.declared.faults.WordFault.{WordFault}
use Rattle.addr_words.specs.declared.faults.WordFault.TheVariants as faults
use Rattle.addr_words.specs.Reading.{is_quote, innermost, outermost, escapes, is_dual, mark, meaning, token, single, open_after, after_front, over_at, tokens_from, tokens_of}
use Rattle.addr_words.specs.Spans.{LooksLike, Spans}
use Rattle.addr_words.proofs.Steps.{escape_read, dual_read, lone_read, last_read, next_read, at_end}

abbrev fine : List Token → Result (List Token) WordFault
fine tokens = Ok tokens

ok_is : (xs ys : List Token) → fine xs ≡ fine ys → xs ≡ ys
ok_is xs ys e = cc

-- tokens that were read with some in front
pub after_ok : (front : List Token) (r : Result (List Token) WordFault) (tokens : List Token) → after_front front r ≡ Ok tokens → (rest : List Token) × (r ≡ Ok rest) × (tokens ≡ front ++ rest)
after_ok front (Ok rest) tokens e = (rest, refl, sym (ok_is (front ++ rest) tokens e))
after_ok front (Err fault) tokens e = absurd cc

-- a mark of a quote in front
quote_in_front : (at b : ℕ) (bytes : List ℕ) (tokens : List Token) → is_quote b ≡ true → Spans (at + 1) bytes tokens → Spans at (b ∷ bytes) tokens
quote_in_front at b bytes [] is s = (is, s)
quote_in_front at b bytes (t ∷ tokens) is s = (
  s.0,
  record {
    marks = b ∷ s.1.marks;
    spelling = s.1.spelling;
    whole = ap (λ (xs : List ℕ). b ∷ xs) s.1.whole;
    quotes = (is, s.1.quotes);
    looks = s.1.looks;
    from = omega (arith, s.1.from);
    to = s.1.to;
  },
  s.2,
)

-- a token in front, of one byte and of two
one_in_front : (at b : ℕ) (bytes : List ℕ) (kind : TokenKind) (tokens : List Token) → LooksLike kind (b ∷ []) → Spans (at + 1) bytes tokens → Spans at (b ∷ bytes) (token kind at (at + 1) ∷ tokens)
one_in_front at b bytes kind tokens looks s =
    (bytes, record { marks = []; spelling = b ∷ []; whole = refl; quotes = tt; looks = looks; from = omega arith; to = refl }, s)

two_in_front : (at b c : ℕ) (bytes : List ℕ) (kind : TokenKind) (tokens : List Token) → LooksLike kind (b ∷ c ∷ []) → Spans (at + 2) bytes tokens → Spans at (b ∷ c ∷ bytes) (token kind at (at + 2) ∷ tokens)
two_in_front at b c bytes kind tokens looks s =
    (bytes, record { marks = []; spelling = b ∷ c ∷ []; whole = refl; quotes = tt; looks = looks; from = omega arith; to = refl }, s)

-- what a byte means looks like that byte, or the byte is a mark of a quote
abbrev Means : ℕ → Option TokenKind → Type 0
Means b None = is_quote b ≡ true
Means b (Some kind) = LooksLike kind (b ∷ [])

mark_means : (b : ℕ) → Means b (Some (mark b))
mark_means b = one (b == 58) (b == 44) (b == 61) refl refl refl
  where
    one : (x y z : Bool) → (b == 58) ≡ x → (b == 44) ≡ y → (b == 61) ≡ z → Means b (Some (cond x Colon (cond y Comma (cond z Equals (Byte b)))))
    one true y z hx hy hz = ap (λ (n : ℕ). n ∷ []) (eqb-true b 58 hx)
    one false true z hx hy hz = ap (λ (n : ℕ). n ∷ []) (eqb-true b 44 hy)
    one false false true hx hy hz = ap (λ (n : ℕ). n ∷ []) (eqb-true b 61 hz)
    one false false false hx hy hz = inl refl

quote_means : (b : ℕ) (kind : TokenKind) → Means b (Some kind) → Means b (cond (is_quote b) None (Some kind))
quote_means b kind looks = one (is_quote b) refl
  where
    one : (x : Bool) → is_quote b ≡ x → Means b (cond x None (Some kind))
    one true h = h
    one false h = looks

meant : (place : Option Enclosure) (b : ℕ) → Means b (meaning place b)
meant None b = quote_means b (mark b) (mark_means b)
meant (Some (Bracket closing)) b = quote_means b (Byte b) (inl refl)
meant (Some DoubleQuote) b = one (b == 34) refl
  where
    one : (x : Bool) → (b == 34) ≡ x → Means b (cond x None (Some (Byte b)))
    one true h = rw h refl
    one false h = inl refl
meant (Some SingleQuote) b = one (b == 34) (b == 39) refl refl
  where
    one : (x y : Bool) → (b == 34) ≡ x → (b == 39) ≡ y → Means b (cond y None (Some (Byte b)))
    one true true hx hy = rw hx refl
    one false true hx hy = rw (hx, hy) refl
    one x false hx hy = inl refl

-- what one byte gives, in front
meaning_in_front : (at b : ℕ) (bytes : List ℕ) (m : Option TokenKind) (tokens : List Token) → Means b m → Spans (at + 1) bytes tokens → Spans at (b ∷ bytes) (single m at ++ tokens)
meaning_in_front at b bytes None tokens is s = quote_in_front at b bytes tokens is s
meaning_in_front at b bytes (Some kind) tokens looks s = one_in_front at b bytes kind tokens looks s

is_backslash : (place : Option Enclosure) (b : ℕ) → escapes place b ≡ true → b ≡ 92
is_backslash None b e = eqb-true b 92 e
is_backslash (Some DoubleQuote) b e = eqb-true b 92 e
is_backslash (Some SingleQuote) b e = absurd cc
is_backslash (Some (Bracket closing)) b e = eqb-true b 92 e

both_true : (x y : Bool) → (x && y) ≡ true → (x ≡ true) × (y ≡ true)
both_true true y e = (refl, e)
both_true false y e = absurd cc

are_marks : (place : Option Enclosure) (b c : ℕ) → is_dual place b c ≡ true → (b ≡ 33) × (c ≡ 33)
are_marks None b c e = let p = both_true (b == 33) (c == 33) e in (eqb-true b 33 p.0, eqb-true c 33 p.1)
are_marks (Some place) b c e = absurd cc

abbrev RestLies : List OpenEnclosure → ℕ → List ℕ → Type 0
RestLies around at bytes = (tokens : List Token) → tokens_from around at bytes ≡ Ok tokens → Spans at bytes tokens

over_lies : (begun : Option ℕ) (at : ℕ) (tokens : List Token) → over_at begun ≡ Ok tokens → Spans at [] tokens
over_lies None at [] e = tt
over_lies None at (t ∷ tokens) e = absurd cc
over_lies (Some begin) at tokens e = absurd cc

not_lone : (at : ℕ) (tokens : List Token) (r : Result (List Token) WordFault) → r ≡ Err (faults.LoneBackslash at) → r ≡ Ok tokens → ⊥
not_lone at tokens r lone e = cc

-- a rest that begins with a byte, where the rests behind it lie so
last_lies : (around : List OpenEnclosure) (at b : ℕ) (x : Bool) → escapes (innermost around) b ≡ x → RestLies (open_after around at b) (at + 1) [] → RestLies around at (b ∷ [])
last_lies around at b true escaping rest tokens e = absurd (not_lone at tokens (tokens_from around at (b ∷ [])) (lone_read around at b escaping) e)
last_lies around at b false escaping rest tokens e =
    let a = after_ok (single (meaning (innermost around) b) at) (tokens_from (open_after around at b) (at + 1) []) tokens (sym (last_read around at b escaping) ∙ e) in
    subst (Spans at (b ∷ [])) (sym a.2) (meaning_in_front at b [] (meaning (innermost around) b) a.0 (meant (innermost around) b) (rest a.0 a.1))

next_lies : (around : List OpenEnclosure) (at b c : ℕ) (bytes : List ℕ) (x y : Bool) → escapes (innermost around) b ≡ x → is_dual (innermost around) b c ≡ y
    → RestLies around (at + 2) bytes → RestLies (open_after around at b) (at + 1) (c ∷ bytes) → RestLies around at (b ∷ c ∷ bytes)
next_lies around at b c bytes true y escaping dual behind rest tokens e =
    let a = after_ok (token (Byte c) at (at + 2) ∷ []) (tokens_from around (at + 2) bytes) tokens (sym (escape_read around at b c bytes escaping) ∙ e) in
    subst (Spans at (b ∷ c ∷ bytes)) (sym a.2) (two_in_front at b c bytes (Byte c) a.0 (inr (ap (λ (n : ℕ). n ∷ c ∷ []) (is_backslash (innermost around) b escaping))) (behind a.0 a.1))
next_lies around at b c bytes false true escaping dual behind rest tokens e =
    let a = after_ok (token Dual at (at + 2) ∷ []) (tokens_from around (at + 2) bytes) tokens (sym (dual_read around at b c bytes escaping dual) ∙ e) in
    let p = are_marks (innermost around) b c dual in
    subst (Spans at (b ∷ c ∷ bytes)) (sym a.2) (two_in_front at b c bytes Dual a.0 (ap (λ (n : ℕ). n ∷ c ∷ []) p.0 ∙ ap (λ (n : ℕ). 33 ∷ n ∷ []) p.1) (behind a.0 a.1))
next_lies around at b c bytes false false escaping dual behind rest tokens e =
    let a = after_ok (single (meaning (innermost around) b) at) (tokens_from (open_after around at b) (at + 1) (c ∷ bytes)) tokens (sym (next_read around at b c bytes escaping dual) ∙ e) in
    subst (Spans at (b ∷ c ∷ bytes)) (sym a.2) (meaning_in_front at b (c ∷ bytes) (meaning (innermost around) b) a.0 (meant (innermost around) b) (rest a.0 a.1))

rest_lies : (around : List OpenEnclosure) (at : ℕ) (bytes : List ℕ) → RestLies around at bytes
rest_lies around at [] tokens e = over_lies (outermost around) at tokens (sym (at_end around at) ∙ e)
rest_lies around at (b ∷ []) tokens e = last_lies around at b (escapes (innermost around) b) refl (rest_lies (open_after around at b) (at + 1) []) tokens e
rest_lies around at (b ∷ c ∷ bytes) tokens e =
    next_lies around at b c bytes (escapes (innermost around) b) (is_dual (innermost around) b c) refl refl (rest_lies around (at + 2) bytes) (rest_lies (open_after around at b) (at + 1) (c ∷ bytes)) tokens e

pub limit_ok : (long : Bool) (r : Result (List Token) WordFault) (tokens : List Token) → cond long (Err faults.TooLong) r ≡ Ok tokens → r ≡ Ok tokens
limit_ok true r tokens e = absurd cc
limit_ok false r tokens e = e

pub text_lies : (text : List ℕ) (tokens : List Token) → tokens_of text ≡ Ok tokens → Spans 0 text tokens
text_lies text tokens e = rest_lies [] 0 text tokens (limit_ok (nat_lt 65536 (length text)) (tokens_from [] 0 text) tokens e)
