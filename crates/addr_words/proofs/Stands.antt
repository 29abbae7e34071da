-- The tokens of a text are of the kinds that it spells, and the reverse.
use Rattle.std.proofs.Common.{◌≡◌, ℕ, ◌+◌, Bool, true, false, cond, ◌||◌, ◌&&◌, ◌==◌, List, [], ◌∷◌, ◌++◌, Option, Some, None, Result, Ok, Err, refl, sym, ap, subst, ◌∙◌, inl, inr}
use Rattle.std.specs.Prelude.{map}
use Rattle.std.specs.List.{AllByRecursion}
use Rattle.std.proofs.lemmas.Bool.{eqb-true, eq-eqb, and_parts, both_ways}
use Rattle.addr_words.specs.declared.token_list.Token.{Token}
use Rattle.addr_words.specs.declared.token_list.TokenKind.{TokenKind}
use Rattle.addr_words.specs.declared.token_list.TokenKind.TheVariants.{Byte, Colon, Comma, Dual, Equals}
use Rattle.addr_words.specs.declared.nesting.Enclosure.{Enclosure}
use Rattle.addr_words.specs.declared.nesting.Enclosure.TheVariants.{DoubleQuote, SingleQuote, Bracket}
use Rattle.addr_words.specs.declared.nesting.OpenEnclosure.{OpenEnclosure}
use Rattle.addr_words.specs.declared.faults.WordFault.{WordFault}
use Rattle.addr_words.specs.declared.faults.WordFault.TheVariants as faults
use Rattle.addr_words.specs.Reading.{is_quote, begun_by, is_ended_by, is_bracket, innermost, outermost, opened, escapes, is_dual, mark, meaning, token, single, open_after, after_front, over_at, tokens_from}
use Rattle.addr_words.proofs.Steps.{escape_read, dual_read, lone_read, last_read, next_read, at_end}
use Rattle.addr_words.proofs.Lies.{after_ok}
use Rattle.addr_words.specs.Spelling.{IsQuoteMark, IsBracketPair, in_quotes, in_single_quotes, is_one_of, special_in, parts_halves, SpellsKinds, over, escaped, quote_begins, quote_ends, bracket_begins, bracket_ends, colon, comma, equals, dual, itself}

-- the byte that closes a quote or a bracket
abbrev pub closing_of : Enclosure → ℕ
closing_of DoubleQuote = 34
closing_of SingleQuote = 39
closing_of (Bracket e) = e

abbrev pub closings : List OpenEnclosure → List ℕ
closings around = map (λ o. closing_of o.what) around

abbrev pub kinds_of : List Token → List TokenKind
kinds_of tokens = map (λ t. t.kind) tokens

-- a byte that closes a bracket is apart from those that mean something else
pub record Apart (e : ℕ) : Type 0 where
  pub double : (34 == e) ≡ false
  pub single : (39 == e) ≡ false
  pub round : (40 == e) ≡ false
  pub square : (91 == e) ≡ false
  pub curly : (123 == e) ≡ false
  pub no_escape : (e == 92) ≡ false
  pub no_double : (e == 34) ≡ false
  pub no_single : (e == 39) ≡ false

abbrev pub Fits : Enclosure → Type 0
Fits DoubleQuote = Unit {0}
Fits SingleQuote = Unit {0}
Fits (Bracket e) = Apart e

abbrev pub Fit : List OpenEnclosure → Type 0
Fit = AllByRecursion (λ o. Fits o.what)

apart_round : Apart 41
apart_round = record { double = refl; single = refl; round = refl; square = refl; curly = refl; no_escape = refl; no_double = refl; no_single = refl }

apart_square : Apart 93
apart_square = record { double = refl; single = refl; round = refl; square = refl; curly = refl; no_escape = refl; no_double = refl; no_single = refl }

apart_curly : Apart 125
apart_curly = record { double = refl; single = refl; round = refl; square = refl; curly = refl; no_escape = refl; no_double = refl; no_single = refl }

-- what is open after a byte fits, too
opened_fit : (b at : ℕ) (around : List OpenEnclosure) → Fit around → Fit (opened (begun_by b) at around)
opened_fit b at around fit = one (b == 34) (b == 39) (b == 40) (b == 91) (b == 123)
  where
    one : (x y z u v : Bool) → Fit (opened (cond x (Some DoubleQuote) (cond y (Some SingleQuote) (cond z (Some (Bracket 41)) (cond u (Some (Bracket 93)) (cond v (Some (Bracket 125)) None))))) at around)
    one true y z u v = (tt, fit)
    one false true z u v = (tt, fit)
    one false false true u v = (apart_round, fit)
    one false false false true v = (apart_square, fit)
    one false false false false true = (apart_curly, fit)
    one false false false false false = fit

pub after_fit : (around : List OpenEnclosure) (at b : ℕ) → Fit around → Fit (open_after around at b)
after_fit [] at b fit = opened_fit b at [] fit
after_fit (o ∷ around) at b fit = one (is_ended_by o.what b) (is_bracket o.what)
  where
    one : (x y : Bool) → Fit (cond x around (cond y (opened (begun_by b) at (o ∷ around)) (o ∷ around)))
    one true y = fit.1
    one false true = opened_fit b at (o ∷ around) fit
    one false false = fit

-- what a byte gives, in front
abbrev lead : Option TokenKind → List TokenKind → List TokenKind
lead None kinds = kinds
lead (Some kind) kinds = kind ∷ kinds

lead_single : (m : Option TokenKind) (at : ℕ) (tokens : List Token) → kinds_of (single m at ++ tokens) ≡ lead m (kinds_of tokens)
lead_single None at tokens = refl
lead_single (Some kind) at tokens = refl

-- a byte is a known one, or isn't
known : (P : ℕ → Type 0) (b n : ℕ) (x : Bool) → (b == n) ≡ x → P n → ((b == n) ≡ false → P b) → P b
known P b n true h here other = subst P (sym (eqb-true b n h)) here
known P b n false h here other = other h

-- a byte that neither escapes nor parts halves, from what the bytes behind it spell
abbrev Outside : ℕ → List ℕ → List TokenKind → ℕ → Type 0
Outside at bytes kinds b =
    SpellsKinds (closings (open_after [] at b)) bytes kinds → SpellsKinds [] (b ∷ bytes) (lead (meaning None b) kinds)

outside : (at b : ℕ) (bytes : List ℕ) (kinds : List TokenKind) → (b == 92) ≡ false → parts_halves [] b bytes ≡ false → Outside at bytes kinds b
outside at b bytes kinds no_escape halves =
    known (Outside at bytes kinds) b 34 (b == 34) refl (λ s. quote_begins [] bytes kinds 34 (inl refl) refl s) (λ p.
    known (Outside at bytes kinds) b 39 (b == 39) refl (λ s. quote_begins [] bytes kinds 39 (inr refl) refl s) (λ q.
    known (Outside at bytes kinds) b 40 (b == 40) refl (λ s. bracket_begins [] bytes kinds 40 41 (inl (refl, refl)) refl s) (λ r.
    known (Outside at bytes kinds) b 91 (b == 91) refl (λ s. bracket_begins [] bytes kinds 91 93 (inr (inl (refl, refl))) refl s) (λ u.
    known (Outside at bytes kinds) b 123 (b == 123) refl (λ s. bracket_begins [] bytes kinds 123 125 (inr (inr (refl, refl))) refl s) (λ v.
    known (Outside at bytes kinds) b 58 (b == 58) refl (λ s. colon bytes kinds s) (λ x.
    known (Outside at bytes kinds) b 44 (b == 44) refl (λ s. comma bytes kinds s) (λ y.
    known (Outside at bytes kinds) b 61 (b == 61) refl (λ s. equals bytes kinds s) (λ z. plain p q r u v x y z))))))))
  where
    plain : (b == 34) ≡ false → (b == 39) ≡ false → (b == 40) ≡ false → (b == 91) ≡ false → (b == 123) ≡ false → (b == 58) ≡ false → (b == 44) ≡ false → (b == 61) ≡ false → Outside at bytes kinds b
    plain p q r u v x y z s =
        let is_self : meaning None b ≡ Some (Byte b) = rw (p, q, x, y, z) refl in
        let stays : open_after [] at b ≡ [] = rw (p, q, r, u, v) refl in
        let apart : is_one_of (special_in []) b ≡ false = rw (no_escape, p, q, r, u, v, x, y, z) refl in
        subst (λ (m : Option TokenKind). SpellsKinds [] (b ∷ bytes) (lead m kinds)) (sym is_self)
        (itself [] bytes kinds b apart halves (subst (λ (around : List OpenEnclosure). SpellsKinds (closings around) bytes kinds) stays s))

-- the same inside, where whole is what is open and around what is open around that
abbrev Inside : Enclosure → List OpenEnclosure → List OpenEnclosure → ℕ → List ℕ → List TokenKind → ℕ → Type 0
Inside w around whole at bytes kinds b =
    SpellsKinds (closings (cond (is_ended_by w b) around (cond (is_bracket w) (opened (begun_by b) at whole) whole))) bytes kinds
    → SpellsKinds (closing_of w ∷ closings around) (b ∷ bytes) (lead (meaning (Some w) b) kinds)

inside : (w : Enclosure) (around whole : List OpenEnclosure) (at b : ℕ) (bytes : List ℕ) (kinds : List TokenKind) → closings whole ≡ closing_of w ∷ closings around → Fits w → escapes (Some w) b ≡ false → Inside w around whole at bytes kinds b
inside DoubleQuote around whole at b bytes kinds c fits no_escape =
    known (Inside DoubleQuote around whole at bytes kinds) b 34 (b == 34) refl (λ s. quote_ends (closings around) bytes kinds 34 (inl refl) s) (λ p.
    subst (λ (x : Bool). SpellsKinds (closings (cond x around whole)) bytes kinds → SpellsKinds (34 ∷ closings around) (b ∷ bytes) (lead (cond x None (Some (Byte b))) kinds)) (sym p)
    (λ s. itself (34 ∷ closings around) bytes kinds b (rw (no_escape, p) refl) refl (subst (λ (ends : List ℕ). SpellsKinds ends bytes kinds) c s)))
inside SingleQuote around whole at b bytes kinds c fits no_escape =
    known (Inside SingleQuote around whole at bytes kinds) b 39 (b == 39) refl (λ s. quote_ends (closings around) bytes kinds 39 (inr refl) s) (λ p.
    subst (λ (x : Bool). SpellsKinds (closings (cond x around whole)) bytes kinds → SpellsKinds (39 ∷ closings around) (b ∷ bytes) (lead (cond x None (Some (Byte b))) kinds)) (sym p)
    (λ s. itself (39 ∷ closings around) bytes kinds b (rw p refl) refl (subst (λ (ends : List ℕ). SpellsKinds ends bytes kinds) c s)))
inside (Bracket e) around whole at b bytes kinds c fits no_escape =
    known (Inside (Bracket e) around whole at bytes kinds) b 34 (b == 34) refl (begins 34 fits.double (λ s. quote_begins (e ∷ closings around) bytes kinds 34 (inl refl) no_quote (at_whole 34 s))) (λ p.
    known (Inside (Bracket e) around whole at bytes kinds) b 39 (b == 39) refl (begins 39 fits.single (λ s. quote_begins (e ∷ closings around) bytes kinds 39 (inr refl) no_quote (at_whole 39 s))) (λ q.
    known (Inside (Bracket e) around whole at bytes kinds) b 40 (b == 40) refl (begins 40 fits.round (λ s. bracket_begins (e ∷ closings around) bytes kinds 40 41 (inl (refl, refl)) no_quote (at_whole 41 s))) (λ r.
    known (Inside (Bracket e) around whole at bytes kinds) b 91 (b == 91) refl (begins 91 fits.square (λ s. bracket_begins (e ∷ closings around) bytes kinds 91 93 (inr (inl (refl, refl))) no_quote (at_whole 93 s))) (λ u.
    known (Inside (Bracket e) around whole at bytes kinds) b 123 (b == 123) refl (begins 123 fits.curly (λ s. bracket_begins (e ∷ closings around) bytes kinds 123 125 (inr (inr (refl, refl))) no_quote (at_whole 125 s))) (λ v.
    known (Inside (Bracket e) around whole at bytes kinds) b e (b == e) refl ends_here (λ z. plain p q r u v z))))))
  where
    no_quote : in_quotes (e ∷ closings around) ≡ false
    no_quote = rw (fits.no_double, fits.no_single) refl

    at_whole : (n : ℕ) → SpellsKinds (n ∷ closings whole) bytes kinds → SpellsKinds (n ∷ e ∷ closings around) bytes kinds
    at_whole n s = subst (λ (ends : List ℕ). SpellsKinds (n ∷ ends) bytes kinds) c s

    begins : (n : ℕ) → (n == e) ≡ false → (SpellsKinds (closings (opened (begun_by n) at whole)) bytes kinds → SpellsKinds (e ∷ closings around) (n ∷ bytes) (lead (meaning (Some (Bracket e)) n) kinds)) → Inside (Bracket e) around whole at bytes kinds n
    begins n apart f =
        subst (λ (x : Bool). SpellsKinds (closings (cond x around (opened (begun_by n) at whole))) bytes kinds → SpellsKinds (e ∷ closings around) (n ∷ bytes) (lead (meaning (Some (Bracket e)) n) kinds)) (sym apart) f

    ends_here : Inside (Bracket e) around whole at bytes kinds e
    ends_here =
        let is_self : meaning (Some (Bracket e)) e ≡ Some (Byte e) = rw (fits.no_double, fits.no_single) refl in
        subst (λ (x : Bool). SpellsKinds (closings (cond x around (opened (begun_by e) at whole))) bytes kinds → SpellsKinds (e ∷ closings around) (e ∷ bytes) (lead (meaning (Some (Bracket e)) e) kinds)) (sym (eq-eqb e e refl))
        (λ s. subst (λ (m : Option TokenKind). SpellsKinds (e ∷ closings around) (e ∷ bytes) (lead m kinds)) (sym is_self) (bracket_ends (closings around) bytes kinds e no_quote s))

    plain : (b == 34) ≡ false → (b == 39) ≡ false → (b == 40) ≡ false → (b == 91) ≡ false → (b == 123) ≡ false → (b == e) ≡ false → Inside (Bracket e) around whole at bytes kinds b
    plain p q r u v z s =
        let is_self : meaning (Some (Bracket e)) b ≡ Some (Byte b) = rw (p, q) refl in
        let stays : cond (b == e) around (opened (begun_by b) at whole) ≡ whole = rw (z, p, q, r, u, v) refl in
        let apart : is_one_of (special_in (e ∷ closings around)) b ≡ false = rw (fits.no_single, fits.no_double, z, no_escape, p, q, r, u, v) refl in
        subst (λ (m : Option TokenKind). SpellsKinds (e ∷ closings around) (b ∷ bytes) (lead m kinds)) (sym is_self)
        (itself (e ∷ closings around) bytes kinds b apart refl (subst (λ (ends : List ℕ). SpellsKinds ends bytes kinds) c (subst (λ (os : List OpenEnclosure). SpellsKinds (closings os) bytes kinds) stays s)))

-- a byte that neither escapes nor parts halves, wherever it stands
byte_stands : (around : List OpenEnclosure) (at b : ℕ) (bytes : List ℕ) (kinds : List TokenKind) → Fit around → escapes (innermost around) b ≡ false → parts_halves (closings around) b bytes ≡ false
    → SpellsKinds (closings (open_after around at b)) bytes kinds → SpellsKinds (closings around) (b ∷ bytes) (lead (meaning (innermost around) b) kinds)
byte_stands [] at b bytes kinds fit escaping halves s = outside at b bytes kinds escaping halves s
byte_stands (o ∷ around) at b bytes kinds fit escaping halves s = inside o.what around (o ∷ around) at b bytes kinds refl fit.0 escaping s

pub alone : (around : List OpenEnclosure) (b : ℕ) → parts_halves (closings around) b [] ≡ false
alone [] b = refl
alone (o ∷ around) b = refl

pub dual_halves : (around : List OpenEnclosure) (b c : ℕ) (bytes : List ℕ) → is_dual (innermost around) b c ≡ false → parts_halves (closings around) b (c ∷ bytes) ≡ false
dual_halves [] b c bytes e = e
dual_halves (o ∷ around) b c bytes e = refl

halves_dual : (around : List OpenEnclosure) (b c : ℕ) (bytes : List ℕ) → parts_halves (closings around) b (c ∷ bytes) ≡ false → is_dual (innermost around) b c ≡ false
halves_dual [] b c bytes e = e
halves_dual (o ∷ around) b c bytes e = refl

pub whole_byte : (around : List OpenEnclosure) (b : ℕ) (bytes : List ℕ) → (b == 33) ≡ false → parts_halves (closings around) b bytes ≡ false
whole_byte [] b [] e = refl
whole_byte [] b (c ∷ bytes) e = ap (λ (x : Bool). x && (c == 33)) e
whole_byte (o ∷ around) b bytes e = refl

pub backslash : (place : Option Enclosure) (b : ℕ) → escapes place b ≡ true → b ≡ 92
backslash None b e = eqb-true b 92 e
backslash (Some DoubleQuote) b e = eqb-true b 92 e
backslash (Some SingleQuote) b e = absurd cc
backslash (Some (Bracket closing)) b e = eqb-true b 92 e

not_single : (around : List OpenEnclosure) (b : ℕ) → Fit around → escapes (innermost around) b ≡ true → in_single_quotes (closings around) ≡ false
not_single [] b fit e = refl
not_single (o ∷ around) b fit e = one o.what fit.0 e
  where
    one : (w : Enclosure) → Fits w → escapes (Some w) b ≡ true → (closing_of w == 39) ≡ false
    one DoubleQuote fits k = refl
    one SingleQuote fits k = absurd cc
    one (Bracket closing) fits k = fits.no_single

abbrev RestStands : List OpenEnclosure → ℕ → List ℕ → Type 0
RestStands around at bytes = (tokens : List Token) → tokens_from around at bytes ≡ Ok tokens → SpellsKinds (closings around) bytes (kinds_of tokens)

pub still_open : (o : OpenEnclosure) (around : List OpenEnclosure) (tokens : List Token) → over_at (outermost (o ∷ around)) ≡ Ok tokens → ⊥
still_open o [] tokens e = absurd cc
still_open o (p ∷ around) tokens e = still_open p around tokens e

over_stands : (around : List OpenEnclosure) (tokens : List Token) → over_at (outermost around) ≡ Ok tokens → SpellsKinds (closings around) [] (kinds_of tokens)
over_stands [] [] e = over
over_stands [] (t ∷ tokens) e = absurd cc
over_stands (o ∷ around) tokens e = absurd (still_open o around tokens e)

not_lone : (at : ℕ) (tokens : List Token) (r : Result (List Token) WordFault) → r ≡ Err (faults.LoneBackslash at) → r ≡ Ok tokens → ⊥
not_lone at tokens r lone e = cc

last_stands : (around : List OpenEnclosure) (at b : ℕ) (x : Bool) → escapes (innermost around) b ≡ x → Fit around → RestStands (open_after around at b) (at + 1) [] → RestStands around at (b ∷ [])
last_stands around at b true escaping fit rest tokens e = absurd (not_lone at tokens (tokens_from around at (b ∷ [])) (lone_read around at b escaping) e)
last_stands around at b false escaping fit rest tokens e =
    let m = meaning (innermost around) b in
    let a = after_ok (single m at) (tokens_from (open_after around at b) (at + 1) []) tokens (sym (last_read around at b escaping) ∙ e) in
    subst (SpellsKinds (closings around) (b ∷ [])) (sym (ap kinds_of a.2 ∙ lead_single m at a.0)) (byte_stands around at b [] (kinds_of a.0) fit escaping (alone around b) (rest a.0 a.1))

dual_stands : (around : List OpenEnclosure) (b c : ℕ) (bytes : List ℕ) (kinds : List TokenKind) → is_dual (innermost around) b c ≡ true → SpellsKinds (closings around) bytes kinds → SpellsKinds (closings around) (b ∷ c ∷ bytes) (Dual ∷ kinds)
dual_stands [] b c bytes kinds e s =
    let p = and_parts (b == 33) (c == 33) e in
    subst (λ (n : ℕ). SpellsKinds [] (n ∷ c ∷ bytes) (Dual ∷ kinds)) (sym (eqb-true b 33 p.0))
    (subst (λ (n : ℕ). SpellsKinds [] (33 ∷ n ∷ bytes) (Dual ∷ kinds)) (sym (eqb-true c 33 p.1)) (dual bytes kinds s))
dual_stands (o ∷ around) b c bytes kinds e s = absurd cc

next_stands : (around : List OpenEnclosure) (at b c : ℕ) (bytes : List ℕ) (x y : Bool) → escapes (innermost around) b ≡ x → is_dual (innermost around) b c ≡ y → Fit around
    → RestStands around (at + 2) bytes → RestStands (open_after around at b) (at + 1) (c ∷ bytes) → RestStands around at (b ∷ c ∷ bytes)
next_stands around at b c bytes true y escaping halves fit behind rest tokens e =
    let a = after_ok (token (Byte c) at (at + 2) ∷ []) (tokens_from around (at + 2) bytes) tokens (sym (escape_read around at b c bytes escaping) ∙ e) in
    subst (SpellsKinds (closings around) (b ∷ c ∷ bytes)) (sym (ap kinds_of a.2))
    (subst (λ (n : ℕ). SpellsKinds (closings around) (n ∷ c ∷ bytes) (Byte c ∷ kinds_of a.0)) (sym (backslash (innermost around) b escaping))
    (escaped (closings around) bytes (kinds_of a.0) c (not_single around b fit escaping) (behind a.0 a.1)))
next_stands around at b c bytes false true escaping halves fit behind rest tokens e =
    let a = after_ok (token Dual at (at + 2) ∷ []) (tokens_from around (at + 2) bytes) tokens (sym (dual_read around at b c bytes escaping halves) ∙ e) in
    subst (SpellsKinds (closings around) (b ∷ c ∷ bytes)) (sym (ap kinds_of a.2)) (dual_stands around b c bytes (kinds_of a.0) halves (behind a.0 a.1))
next_stands around at b c bytes false false escaping halves fit behind rest tokens e =
    let m = meaning (innermost around) b in
    let a = after_ok (single m at) (tokens_from (open_after around at b) (at + 1) (c ∷ bytes)) tokens (sym (next_read around at b c bytes escaping halves) ∙ e) in
    subst (SpellsKinds (closings around) (b ∷ c ∷ bytes)) (sym (ap kinds_of a.2 ∙ lead_single m at a.0))
    (byte_stands around at b (c ∷ bytes) (kinds_of a.0) fit escaping (dual_halves around b c bytes halves) (rest a.0 a.1))

-- the kinds of the tokens are what the bytes spell
pub rest_stands : (around : List OpenEnclosure) (at : ℕ) (bytes : List ℕ) → Fit around → RestStands around at bytes
rest_stands around at [] fit tokens e = over_stands around tokens (sym (at_end around at) ∙ e)
rest_stands around at (b ∷ []) fit tokens e =
    last_stands around at b (escapes (innermost around) b) refl fit (rest_stands (open_after around at b) (at + 1) [] (after_fit around at b fit)) tokens e
rest_stands around at (b ∷ c ∷ bytes) fit tokens e =
    next_stands around at b c bytes (escapes (innermost around) b) (is_dual (innermost around) b c) refl refl fit (rest_stands around (at + 2) bytes fit)
    (rest_stands (open_after around at b) (at + 1) (c ∷ bytes) (after_fit around at b fit)) tokens e

-- bytes are read from an offset on as tokens of these kinds
abbrev pub ReadsAs : List OpenEnclosure → ℕ → List ℕ → List TokenKind → Type 0
ReadsAs around at bytes kinds = (tokens : List Token) × (tokens_from around at bytes ≡ Ok tokens) × (kinds_of tokens ≡ kinds)

pub single_read : (around : List OpenEnclosure) (at b : ℕ) (bytes : List ℕ) → escapes (innermost around) b ≡ false → parts_halves (closings around) b bytes ≡ false
    → tokens_from around at (b ∷ bytes) ≡ after_front (single (meaning (innermost around) b) at) (tokens_from (open_after around at b) (at + 1) bytes)
single_read around at b [] escaping halves = last_read around at b escaping
single_read around at b (c ∷ bytes) escaping halves = next_read around at b c bytes escaping (halves_dual around b c bytes halves)

byte_reads : (around : List OpenEnclosure) (at b : ℕ) (bytes : List ℕ) (kinds : List TokenKind) (m : Option TokenKind) (next : List OpenEnclosure)
    → escapes (innermost around) b ≡ false → parts_halves (closings around) b bytes ≡ false → meaning (innermost around) b ≡ m → open_after around at b ≡ next
    → ReadsAs next (at + 1) bytes kinds → ReadsAs around at (b ∷ bytes) (lead m kinds)
byte_reads around at b bytes kinds m next escaping halves means opens r =
    let read : tokens_from around at (b ∷ bytes) ≡ Ok (single m at ++ r.0) =
    single_read around at b bytes escaping halves
    ∙ ap (λ (x : Option TokenKind). after_front (single x at) (tokens_from (open_after around at b) (at + 1) bytes)) means
    ∙ ap (λ (os : List OpenEnclosure). after_front (single m at) (tokens_from os (at + 1) bytes)) opens
    ∙ ap (after_front (single m at)) r.1 in
    (single m at ++ r.0, read, lead_single m at r.0 ∙ ap (lead m) r.2)

pub no_escape_at : (place : Option Enclosure) (b : ℕ) → (b == 92) ≡ false → escapes place b ≡ false
no_escape_at None b e = e
no_escape_at (Some DoubleQuote) b e = e
no_escape_at (Some SingleQuote) b e = refl
no_escape_at (Some (Bracket closing)) b e = e

in_no_quotes : (w : Enclosure) → ((closing_of w == 34) || (closing_of w == 39)) ≡ false → (is_bracket w ≡ true) × ((b : ℕ) → meaning (Some w) b ≡ cond (is_quote b) None (Some (Byte b)))
in_no_quotes DoubleQuote e = absurd cc
in_no_quotes SingleQuote e = absurd cc
in_no_quotes (Bracket closing) e = (refl, λ b. refl)

-- what a byte begins that begins something
opens : (around : List OpenEnclosure) (at b : ℕ) (what : Enclosure) → Fit around → in_quotes (closings around) ≡ false → begun_by b ≡ Some what → ((e : ℕ) → Apart e → (b == e) ≡ false)
    → open_after around at b ≡ record { what = what; at = at } ∷ around
opens [] at b what fit outer is apart = ap (λ (x : Option Enclosure). opened x at []) is
opens (o ∷ around) at b what fit outer is apart = one o.what fit.0 outer
  where
    one : (w : Enclosure) → Fits w → ((closing_of w == 34) || (closing_of w == 39)) ≡ false
        → cond (is_ended_by w b) around (cond (is_bracket w) (opened (begun_by b) at (o ∷ around)) (o ∷ around)) ≡ record { what = what; at = at } ∷ o ∷ around
    one DoubleQuote fits e = absurd cc
    one SingleQuote fits e = absurd cc
    one (Bracket closing) fits e =
        ap (λ (x : Bool). cond x around (opened (begun_by b) at (o ∷ around))) (apart closing fits) ∙ ap (λ (x : Option Enclosure). opened x at (o ∷ around)) is

-- a mark of a quote, where one may begin
quote_opens : (around : List OpenEnclosure) (at q : ℕ) (ends : List ℕ) → IsQuoteMark q → Fit around → in_quotes (closings around) ≡ false → closings around ≡ ends → closings (open_after around at q) ≡ q ∷ ends
quote_opens around at q ends (inl h) fit outer c =
    subst (λ (n : ℕ). closings (open_after around at n) ≡ n ∷ ends) (sym h) (ap closings (opens around at 34 DoubleQuote fit outer refl (λ e apart. apart.double)) ∙ ap (λ (xs : List ℕ). 34 ∷ xs) c)
quote_opens around at q ends (inr h) fit outer c =
    subst (λ (n : ℕ). closings (open_after around at n) ≡ n ∷ ends) (sym h) (ap closings (opens around at 39 SingleQuote fit outer refl (λ e apart. apart.single)) ∙ ap (λ (xs : List ℕ). 39 ∷ xs) c)

quote_bytes : (q : ℕ) → IsQuoteMark q → ((q == 92) ≡ false) × ((q == 33) ≡ false) × (is_quote q ≡ true)
quote_bytes q (inl h) = subst (λ (n : ℕ). ((n == 92) ≡ false) × ((n == 33) ≡ false) × (is_quote n ≡ true)) (sym h) (refl, refl, refl)
quote_bytes q (inr h) = subst (λ (n : ℕ). ((n == 92) ≡ false) × ((n == 33) ≡ false) × (is_quote n ≡ true)) (sym h) (refl, refl, refl)

quote_silent : (around : List OpenEnclosure) (q : ℕ) → is_quote q ≡ true → in_quotes (closings around) ≡ false → meaning (innermost around) q ≡ None
quote_silent [] q is outer = ap (λ (x : Bool). cond x None (Some (mark q))) is
quote_silent (o ∷ around) q is outer = (in_no_quotes o.what outer).1 q ∙ ap (λ (x : Bool). cond x None (Some (Byte q))) is

-- and where it ends
quote_closes : (w : Enclosure) (q : ℕ) → Fits w → closing_of w ≡ q → IsQuoteMark q → (escapes (Some w) q ≡ false) × (meaning (Some w) q ≡ None) × (is_ended_by w q ≡ true)
quote_closes DoubleQuote q fits h is = subst (λ (n : ℕ). (escapes (Some DoubleQuote) n ≡ false) × (meaning (Some DoubleQuote) n ≡ None) × (is_ended_by DoubleQuote n ≡ true)) h (refl, refl, refl)
quote_closes SingleQuote q fits h is = subst (λ (n : ℕ). (escapes (Some SingleQuote) n ≡ false) × (meaning (Some SingleQuote) n ≡ None) × (is_ended_by SingleQuote n ≡ true)) h (refl, refl, refl)
quote_closes (Bracket e) q fits h (inl is) = absurd (both_ways (e == 34) fits.no_double (eq-eqb e 34 (h ∙ is)))
quote_closes (Bracket e) q fits h (inr is) = absurd (both_ways (e == 39) fits.no_single (eq-eqb e 39 (h ∙ is)))

-- an opening bracket, where one may begin
bracket_opens : (around : List OpenEnclosure) (at b e : ℕ) (ends : List ℕ) → IsBracketPair b e → Fit around → in_quotes (closings around) ≡ false → closings around ≡ ends → closings (open_after around at b) ≡ e ∷ ends
bracket_opens around at b e ends (inl h) fit outer c =
    subst (λ (n : ℕ). closings (open_after around at n) ≡ e ∷ ends) (sym h.0)
    (ap closings (opens around at 40 (Bracket 41) fit outer refl (λ x apart. apart.round)) ∙ ap (λ (xs : List ℕ). 41 ∷ xs) c ∙ ap (λ (x : ℕ). x ∷ ends) (sym h.1))
bracket_opens around at b e ends (inr (inl h)) fit outer c =
    subst (λ (n : ℕ). closings (open_after around at n) ≡ e ∷ ends) (sym h.0)
    (ap closings (opens around at 91 (Bracket 93) fit outer refl (λ x apart. apart.square)) ∙ ap (λ (xs : List ℕ). 93 ∷ xs) c ∙ ap (λ (x : ℕ). x ∷ ends) (sym h.1))
bracket_opens around at b e ends (inr (inr h)) fit outer c =
    subst (λ (n : ℕ). closings (open_after around at n) ≡ e ∷ ends) (sym h.0)
    (ap closings (opens around at 123 (Bracket 125) fit outer refl (λ x apart. apart.curly)) ∙ ap (λ (xs : List ℕ). 125 ∷ xs) c ∙ ap (λ (x : ℕ). x ∷ ends) (sym h.1))

abbrev IsPlainMark : ℕ → Type 0
IsPlainMark b = ((b == 92) ≡ false) × ((b == 33) ≡ false) × (is_quote b ≡ false) × (mark b ≡ Byte b)

bracket_bytes : (b e : ℕ) → IsBracketPair b e → IsPlainMark b
bracket_bytes b e (inl h) = subst IsPlainMark (sym h.0) (refl, refl, refl, refl)
bracket_bytes b e (inr (inl h)) = subst IsPlainMark (sym h.0) (refl, refl, refl, refl)
bracket_bytes b e (inr (inr h)) = subst IsPlainMark (sym h.0) (refl, refl, refl, refl)

means_itself : (around : List OpenEnclosure) (b : ℕ) → is_quote b ≡ false → mark b ≡ Byte b → in_quotes (closings around) ≡ false → meaning (innermost around) b ≡ Some (Byte b)
means_itself [] b is marks outer = ap (λ (x : Bool). cond x None (Some (mark b))) is ∙ ap (λ (k : TokenKind). Some k) marks
means_itself (o ∷ around) b is marks outer = (in_no_quotes o.what outer).1 b ∙ ap (λ (x : Bool). cond x None (Some (Byte b))) is

-- and where it ends
bracket_closes : (w : Enclosure) (e : ℕ) → Fits w → closing_of w ≡ e → ((e == 34) || (e == 39)) ≡ false → (escapes (Some w) e ≡ false) × (meaning (Some w) e ≡ Some (Byte e)) × (is_ended_by w e ≡ true)
bracket_closes DoubleQuote e fits h outer = absurd (both_ways ((e == 34) || (e == 39)) outer (subst (λ (n : ℕ). ((n == 34) || (n == 39)) ≡ true) h refl))
bracket_closes SingleQuote e fits h outer = absurd (both_ways ((e == 34) || (e == 39)) outer (subst (λ (n : ℕ). ((n == 34) || (n == 39)) ≡ true) h refl))
bracket_closes (Bracket closing) e fits h outer =
    (ap (λ (n : ℕ). n == 92) (sym h) ∙ fits.no_escape, ap (λ (x : Bool). cond x None (Some (Byte e))) outer, eq-eqb e closing (sym h))

-- a byte that is none of the special ones
none_of : (specials : List ℕ) (b : ℕ) → is_one_of specials b ≡ false → AllByRecursion (λ s. (b == s) ≡ false) specials
none_of [] b e = tt
none_of (s ∷ specials) b e = let p = or_none (b == s) (is_one_of specials b) e in (p.0, none_of specials b p.1)
  where
    or_none : (x y : Bool) → (x || y) ≡ false → (x ≡ false) × (y ≡ false)
    or_none true y k = absurd cc
    or_none false y k = (refl, k)

abbrev IsItself : List OpenEnclosure → ℕ → ℕ → Type 0
IsItself around at b = (escapes (innermost around) b ≡ false) × (meaning (innermost around) b ≡ Some (Byte b)) × (open_after around at b ≡ around)

itself_in : (w : Enclosure) (around whole : List OpenEnclosure) (at b : ℕ) → Fits w → is_one_of (special_in (closing_of w ∷ closings around)) b ≡ false
    → (escapes (Some w) b ≡ false) × (meaning (Some w) b ≡ Some (Byte b)) × (cond (is_ended_by w b) around (cond (is_bracket w) (opened (begun_by b) at whole) whole) ≡ whole)
itself_in DoubleQuote around whole at b fits e =
    let f = none_of (92 ∷ 34 ∷ []) b e in
    (f.0, ap (λ (x : Bool). cond x None (Some (Byte b))) f.1.0, ap (λ (x : Bool). cond x around whole) f.1.0)
itself_in SingleQuote around whole at b fits e =
    let f = none_of (39 ∷ []) b e in
    (refl, ap (λ (x : Bool). cond x None (Some (Byte b))) f.0, ap (λ (x : Bool). cond x around whole) f.0)
itself_in (Bracket n) around whole at b fits e =
    let specials : special_in (n ∷ closings around) ≡ n ∷ 92 ∷ 34 ∷ 39 ∷ 40 ∷ 91 ∷ 123 ∷ [] = rw (fits.no_single, fits.no_double) refl in
    let f = none_of (n ∷ 92 ∷ 34 ∷ 39 ∷ 40 ∷ 91 ∷ 123 ∷ []) b (ap (λ (xs : List ℕ). is_one_of xs b) (sym specials) ∙ e) in
    let is_self : meaning (Some (Bracket n)) b ≡ Some (Byte b) = rw (f.1.1.0, f.1.1.1.0) refl in
    let stays : cond (b == n) around (opened (begun_by b) at whole) ≡ whole = rw (f.0, f.1.1.0, f.1.1.1.0, f.1.1.1.1.0, f.1.1.1.1.1.0, f.1.1.1.1.1.1.0) refl in
    (f.1.0, is_self, stays)

itself_is : (around : List OpenEnclosure) (at b : ℕ) → Fit around → is_one_of (special_in (closings around)) b ≡ false → IsItself around at b
itself_is [] at b fit e =
    let f = none_of (special_in []) b e in
    let is_self : meaning None b ≡ Some (Byte b) = rw (f.1.0, f.1.1.0, f.1.1.1.1.1.1.0, f.1.1.1.1.1.1.1.0, f.1.1.1.1.1.1.1.1.0) refl in
    let stays : open_after [] at b ≡ [] = rw (f.1.0, f.1.1.0, f.1.1.1.0, f.1.1.1.1.0, f.1.1.1.1.1.0) refl in
    (f.0, is_self, stays)
itself_is (o ∷ around) at b fit e = itself_in o.what around (o ∷ around) at b fit.0 e

first_is : (x y : ℕ) (xs ys : List ℕ) → x ∷ xs ≡ y ∷ ys → (x ≡ y) × (xs ≡ ys)
first_is x y xs ys e = (cc, cc)

nothing_open : (x : ℕ) (xs : List ℕ) → x ∷ xs ≡ [] → ⊥
nothing_open x xs e = cc

-- what ends the innermost, where the rest is read
ending_reads : (around : List OpenEnclosure) (at b : ℕ) (ends bytes : List ℕ) (kinds : List TokenKind) (m : Option TokenKind) → Fit around → closings around ≡ b ∷ ends
    → ((w : Enclosure) → Fits w → closing_of w ≡ b → (escapes (Some w) b ≡ false) × (meaning (Some w) b ≡ m) × (is_ended_by w b ≡ true))
    → ((outer : List OpenEnclosure) (next : ℕ) → Fit outer → closings outer ≡ ends → ReadsAs outer next bytes kinds) → ReadsAs around at (b ∷ bytes) (lead m kinds)
ending_reads [] at b ends bytes kinds m fit c closes read = absurd (nothing_open b ends (sym c))
ending_reads (o ∷ around) at b ends bytes kinds m fit c closes read =
    let e = first_is (closing_of o.what) b (closings around) ends c in
    let f = closes o.what fit.0 e.0 in
    let ended : open_after (o ∷ around) at b ≡ around = ap (λ (x : Bool). cond x around (cond (is_bracket o.what) (opened (begun_by b) at (o ∷ around)) (o ∷ around))) f.2 in
    byte_reads (o ∷ around) at b bytes kinds m around f.0 refl f.1 ended (read around (at + 1) fit.1 e.1)

-- a mark outside
mark_reads : (around : List OpenEnclosure) (at b : ℕ) (bytes : List ℕ) (kinds : List TokenKind) (kind : TokenKind) → closings around ≡ [] → (b == 92) ≡ false → (b == 33) ≡ false → meaning None b ≡ Some kind → begun_by b ≡ None
    → ReadsAs [] (at + 1) bytes kinds → ReadsAs around at (b ∷ bytes) (kind ∷ kinds)
mark_reads [] at b bytes kinds kind c escaping halves means begins r =
    byte_reads [] at b bytes kinds (Some kind) [] escaping (whole_byte [] b bytes halves) means (ap (λ (x : Option Enclosure). opened x at []) begins) r
mark_reads (o ∷ around) at b bytes kinds kind c escaping halves means begins r = absurd (nothing_open (closing_of o.what) (closings around) c)

dual_reads : (around : List OpenEnclosure) (at : ℕ) (bytes : List ℕ) (kinds : List TokenKind) → closings around ≡ [] → ReadsAs [] (at + 2) bytes kinds → ReadsAs around at (33 ∷ 33 ∷ bytes) (Dual ∷ kinds)
dual_reads [] at bytes kinds c r =
    (token Dual at (at + 2) ∷ r.0, dual_read [] at 33 33 bytes refl refl ∙ ap (after_front (token Dual at (at + 2) ∷ [])) r.1, ap (λ (ks : List TokenKind). Dual ∷ ks) r.2)
dual_reads (o ∷ around) at bytes kinds c r = absurd (nothing_open (closing_of o.what) (closings around) c)

over_reads : (around : List OpenEnclosure) (at : ℕ) → closings around ≡ [] → ReadsAs around at [] []
over_reads [] at c = ([], at_end [] at, refl)
over_reads (o ∷ around) at c = absurd (nothing_open (closing_of o.what) (closings around) c)

is_escaping : (around : List OpenEnclosure) → in_single_quotes (closings around) ≡ false → escapes (innermost around) 92 ≡ true
is_escaping [] e = refl
is_escaping (o ∷ around) e = one o.what e
  where
    one : (w : Enclosure) → (closing_of w == 39) ≡ false → escapes (Some w) 92 ≡ true
    one DoubleQuote k = refl
    one SingleQuote k = absurd cc
    one (Bracket closing) k = refl

escape_reads : (around : List OpenEnclosure) (at b : ℕ) (bytes : List ℕ) (kinds : List TokenKind) → in_single_quotes (closings around) ≡ false → ReadsAs around (at + 2) bytes kinds → ReadsAs around at (92 ∷ b ∷ bytes) (Byte b ∷ kinds)
escape_reads around at b bytes kinds e r =
    (token (Byte b) at (at + 2) ∷ r.0, escape_read around at 92 b bytes (is_escaping around e) ∙ ap (after_front (token (Byte b) at (at + 2) ∷ [])) r.1, ap (λ (ks : List TokenKind). Byte b ∷ ks) r.2)

-- what the bytes spell is read
pub kinds_read : (ends bytes : List ℕ) (kinds : List TokenKind) → SpellsKinds ends bytes kinds → (around : List OpenEnclosure) (at : ℕ) → Fit around → closings around ≡ ends → ReadsAs around at bytes kinds
kinds_read _ _ _ over around at fit c = over_reads around at c
kinds_read _ _ _ (escaped ends bytes kinds b e s) around at fit c = escape_reads around at b bytes kinds (ap in_single_quotes c ∙ e) (kinds_read ends bytes kinds s around (at + 2) fit c)
kinds_read _ _ _ (quote_begins ends bytes kinds q is e s) around at fit c =
    let f = quote_bytes q is in
    let outer : in_quotes (closings around) ≡ false = ap in_quotes c ∙ e in
    byte_reads around at q bytes kinds None (open_after around at q) (no_escape_at (innermost around) q f.0) (whole_byte around q bytes f.1) (quote_silent around q f.2 outer) refl
    (kinds_read (q ∷ ends) bytes kinds s (open_after around at q) (at + 1) (after_fit around at q fit) (quote_opens around at q ends is fit outer c))
kinds_read _ _ _ (quote_ends ends bytes kinds q is s) around at fit c =
    ending_reads around at q ends bytes kinds None fit c (λ w fits h. quote_closes w q fits h is) (λ outer next fits h. kinds_read ends bytes kinds s outer next fits h)
kinds_read _ _ _ (bracket_begins ends bytes kinds b n is e s) around at fit c =
    let f = bracket_bytes b n is in
    let outer : in_quotes (closings around) ≡ false = ap in_quotes c ∙ e in
    byte_reads around at b bytes kinds (Some (Byte b)) (open_after around at b) (no_escape_at (innermost around) b f.0) (whole_byte around b bytes f.1) (means_itself around b f.2 f.3 outer) refl
    (kinds_read (n ∷ ends) bytes kinds s (open_after around at b) (at + 1) (after_fit around at b fit) (bracket_opens around at b n ends is fit outer c))
kinds_read _ _ _ (bracket_ends ends bytes kinds n e s) around at fit c =
    ending_reads around at n ends bytes kinds (Some (Byte n)) fit c (λ w fits h. bracket_closes w n fits h e) (λ outer next fits h. kinds_read ends bytes kinds s outer next fits h)
kinds_read _ _ _ (colon bytes kinds s) around at fit c = mark_reads around at 58 bytes kinds Colon c refl refl refl refl (kinds_read [] bytes kinds s [] (at + 1) tt refl)
kinds_read _ _ _ (comma bytes kinds s) around at fit c = mark_reads around at 44 bytes kinds Comma c refl refl refl refl (kinds_read [] bytes kinds s [] (at + 1) tt refl)
kinds_read _ _ _ (equals bytes kinds s) around at fit c = mark_reads around at 61 bytes kinds Equals c refl refl refl refl (kinds_read [] bytes kinds s [] (at + 1) tt refl)
kinds_read _ _ _ (dual bytes kinds s) around at fit c = dual_reads around at bytes kinds c (kinds_read [] bytes kinds s [] (at + 2) tt refl)
kinds_read _ _ _ (itself ends bytes kinds b e halves s) around at fit c =
    let f = itself_is around at b fit (ap (λ (xs : List ℕ). is_one_of (special_in xs) b) c ∙ e) in
    byte_reads around at b bytes kinds (Some (Byte b)) around f.0 (ap (λ (xs : List ℕ). parts_halves xs b bytes) c ∙ halves) f.1 f.2 (kinds_read ends bytes kinds s around (at + 1) fit c)
