-- What reading one token, one mark or one escape does to the reading of the rest.
use Rattle.std.proofs.Common.{◌≡◌, ℕ, ◌+◌, ◌<◌, ◌≤◌, true, false, List, [], ◌∷◌, ◌++◌, length, get_or, drop, Result, Ok, Err, refl, sym, ap, ◌∙◌, append_assoc, arith, Some, None}
use Rattle.std.proofs.lemmas.Bool.{le-ltb}
use Rattle.std.proofs.lemmas.List.{append-nil, drop_more, drop_all}
use Rattle.addr_words.specs.declared.token_list.Token.{Token}
use Rattle.addr_words.specs.declared.token_list.TokenKind.TheVariants.{Byte, Dual}
use Rattle.addr_words.specs.declared.nesting.OpenEnclosure.{OpenEnclosure}
use Rattle.addr_words.specs.declared.faults.WordFault.{WordFault}
use Rattle.addr_words.specs.declared.faults.WordFault.TheVariants as faults
use Rattle.addr_words.specs.Reading.{innermost, outermost, escapes, is_dual, meaning, token, single, open_after, after_front, over_at, tokens_from, tokens_of}

pub after_front-after : (a b : List Token) (r : Result (List Token) WordFault) → after_front a (after_front b r) ≡ after_front (a ++ b) r
after_front-after a b (Ok ts) = ap Ok (sym (append_assoc a b ts))
after_front-after a b (Err f) = refl

pub after_front-none : (r : Result (List Token) WordFault) → after_front [] r ≡ r
after_front-none (Ok ts) = refl
after_front-none (Err f) = refl

-- the whole text at which two bytes are left at least
two_left : (text : List ℕ) (at : ℕ) → at + 1 < length text → drop at text ≡ get_or text at 0 ∷ get_or text (at + 1) 0 ∷ drop (at + 2) text
two_left text at lt =
    let first = drop_more text at 0 (omega arith) in
    let second = drop_more text (at + 1) 0 lt in
    let k : at + 1 + 1 ≡ at + 2 = omega arith in
    first ∙ ap (λ (xs : List ℕ). get_or text at 0 ∷ xs) (second ∙ ap (λ (n : ℕ). get_or text (at + 1) 0 ∷ drop n text) k)

one_left : (text : List ℕ) (at : ℕ) → at + 1 ≡ length text → drop at text ≡ get_or text at 0 ∷ []
one_left text at e = drop_more text at 0 (omega arith) ∙ ap (λ (xs : List ℕ). get_or text at 0 ∷ xs) (drop_all (at + 1) text (omega arith))

pub escape_read : (around : List OpenEnclosure) (at b c : ℕ) (bs : List ℕ) → escapes (innermost around) b ≡ true → tokens_from around at (b ∷ c ∷ bs) ≡ after_front (token (Byte c) at (at + 2) ∷ []) (tokens_from around (at + 2) bs)
unfolding tokens_from
escape_read around at b c bs e = rw e refl

pub dual_read : (around : List OpenEnclosure) (at b c : ℕ) (bs : List ℕ) → escapes (innermost around) b ≡ false → is_dual (innermost around) b c ≡ true → tokens_from around at (b ∷ c ∷ bs) ≡ after_front (token Dual at (at + 2) ∷ []) (tokens_from around (at + 2) bs)
unfolding tokens_from
dual_read around at b c bs e d = rw (e, d) refl

pub lone_read : (around : List OpenEnclosure) (at b : ℕ) → escapes (innermost around) b ≡ true → tokens_from around at (b ∷ []) ≡ Err (faults.LoneBackslash at)
unfolding tokens_from
lone_read around at b e = rw e refl

pub last_read : (around : List OpenEnclosure) (at b : ℕ) → escapes (innermost around) b ≡ false → tokens_from around at (b ∷ []) ≡ after_front (single (meaning (innermost around) b) at) (tokens_from (open_after around at b) (at + 1) [])
unfolding tokens_from
last_read around at b e = rw e refl

pub next_read : (around : List OpenEnclosure) (at b c : ℕ) (bs : List ℕ) → escapes (innermost around) b ≡ false → is_dual (innermost around) b c ≡ false
    → tokens_from around at (b ∷ c ∷ bs) ≡ after_front (single (meaning (innermost around) b) at) (tokens_from (open_after around at b) (at + 1) (c ∷ bs))
unfolding tokens_from
next_read around at b c bs e d = rw (e, d) refl

-- an escape is read
pub escape_step : (front : List Token) (around : List OpenEnclosure) (at : ℕ) (text : List ℕ) → at + 1 < length text → escapes (innermost around) (get_or text at 0) ≡ true
    → after_front (front ++ token (Byte (get_or text (at + 1) 0)) at (at + 2) ∷ []) (tokens_from around (at + 2) (drop (at + 2) text)) ≡ after_front front (tokens_from around at (drop at text))
escape_step front around at text lt e =
    sym (ap (λ (xs : List ℕ). after_front front (tokens_from around at xs)) (two_left text at lt)
    ∙ ap (after_front front) (escape_read around at (get_or text at 0) (get_or text (at + 1) 0) (drop (at + 2) text) e)
    ∙ after_front-after front _ _)

-- two exclamation marks are read
pub dual_step : (front : List Token) (around : List OpenEnclosure) (at : ℕ) (text : List ℕ) → at + 1 < length text → escapes (innermost around) (get_or text at 0) ≡ false → is_dual (innermost around) (get_or text at 0) (get_or text (at + 1) 0) ≡ true
    → after_front (front ++ token Dual at (at + 2) ∷ []) (tokens_from around (at + 2) (drop (at + 2) text)) ≡ after_front front (tokens_from around at (drop at text))
dual_step front around at text lt e d =
    sym (ap (λ (xs : List ℕ). after_front front (tokens_from around at xs)) (two_left text at lt)
    ∙ ap (after_front front) (dual_read around at (get_or text at 0) (get_or text (at + 1) 0) (drop (at + 2) text) e d)
    ∙ after_front-after front _ _)

-- a byte is read that is the last
pub last_step : (front : List Token) (around : List OpenEnclosure) (at : ℕ) (text : List ℕ) → at + 1 ≡ length text → escapes (innermost around) (get_or text at 0) ≡ false
    → after_front (front ++ single (meaning (innermost around) (get_or text at 0)) at) (tokens_from (open_after around at (get_or text at 0)) (at + 1) (drop (at + 1) text)) ≡ after_front front (tokens_from around at (drop at text))
last_step front around at text is_last e =
    let past : drop (at + 1) text ≡ [] = drop_all (at + 1) text (omega arith) in
    sym (ap (λ (xs : List ℕ). after_front front (tokens_from around at xs)) (one_left text at is_last)
    ∙ ap (after_front front) (last_read around at (get_or text at 0) e)
    ∙ after_front-after front _ _
    ∙ ap (λ (xs : List ℕ). after_front (front ++ single (meaning (innermost around) (get_or text at 0)) at) (tokens_from (open_after around at (get_or text at 0)) (at + 1) xs)) (sym past))

-- a byte is read that isn't the last
pub next_step : (front : List Token) (around : List OpenEnclosure) (at : ℕ) (text : List ℕ) → at + 1 < length text → escapes (innermost around) (get_or text at 0) ≡ false → is_dual (innermost around) (get_or text at 0) (get_or text (at + 1) 0) ≡ false
    → after_front (front ++ single (meaning (innermost around) (get_or text at 0)) at) (tokens_from (open_after around at (get_or text at 0)) (at + 1) (drop (at + 1) text)) ≡ after_front front (tokens_from around at (drop at text))
next_step front around at text lt e d =
    let rest : drop (at + 1) text ≡ get_or text (at + 1) 0 ∷ drop (at + 2) text = drop_more text (at + 1) 0 lt ∙ ap (λ (n : ℕ). get_or text (at + 1) 0 ∷ drop n text) (omega arith) in
    sym (ap (λ (xs : List ℕ). after_front front (tokens_from around at xs)) (two_left text at lt)
    ∙ ap (after_front front) (next_read around at (get_or text at 0) (get_or text (at + 1) 0) (drop (at + 2) text) e d)
    ∙ after_front-after front _ _
    ∙ ap (λ (xs : List ℕ). after_front (front ++ single (meaning (innermost around) (get_or text at 0)) at) (tokens_from (open_after around at (get_or text at 0)) (at + 1) xs)) (sym rest))

-- a backslash is read with nothing behind it
pub lone_step : (around : List OpenEnclosure) (at : ℕ) (text : List ℕ) → at + 1 ≡ length text → escapes (innermost around) (get_or text at 0) ≡ true → tokens_from around at (drop at text) ≡ Err (faults.LoneBackslash at)
lone_step around at text is_last e = ap (tokens_from around at) (one_left text at is_last) ∙ lone_read around at (get_or text at 0) e

-- a text that isn't too long
pub short_read : (text : List ℕ) → length text ≤ 65536 → tokens_of text ≡ tokens_from [] 0 text
short_read text le = rw (le-ltb 65536 (length text) le) refl

pub at_end : (around : List OpenEnclosure) (at : ℕ) → tokens_from around at [] ≡ over_at (outermost around)
unfolding tokens_from
at_end around at = refl

-- the text is over where something is open
pub over_read : (front : List Token) (around : List OpenEnclosure) (at from : ℕ) (text : List ℕ) → length text ≤ at → after_front front (tokens_from around at (drop at text)) ≡ tokens_from [] 0 text → outermost around ≡ Some from → tokens_from [] 0 text ≡ Err (faults.Unclosed from)
over_read front around at from text le read is_open =
    sym read ∙ ap (λ (xs : List ℕ). after_front front (tokens_from around at xs)) (drop_all at text le) ∙ ap (after_front front) (at_end around at ∙ ap over_at is_open)

-- the text is over where nothing is open
pub over_clear : (front : List Token) (around : List OpenEnclosure) (at : ℕ) (text : List ℕ) → length text ≤ at → after_front front (tokens_from around at (drop at text)) ≡ tokens_from [] 0 text → outermost around ≡ None → tokens_from [] 0 text ≡ Ok front
over_clear front around at text le read is_clear =
    sym read ∙ ap (λ (xs : List ℕ). after_front front (tokens_from around at xs)) (drop_all at text le) ∙ ap (after_front front) (at_end around at ∙ ap over_at is_clear) ∙ ap Ok (append-nil front)
