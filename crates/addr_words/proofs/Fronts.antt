-- Whether bytes are read to their end, and which faults they have.
use Rattle.std.proofs.Common.{◌≡◌, ℕ, ◌+◌, ◌≤◌, Bool, true, false, cond, List, [], ◌∷◌, ◌++◌, length, Option, Some, None, Result, Ok, Err, refl, sym, ap, subst, ◌∙◌, arith}
use Rattle.std.proofs.lemmas.Bool.{eq-eqb}
use Rattle.addr_words.specs.declared.token_list.Token.{Token}
use Rattle.addr_words.specs.declared.token_list.TokenKind.TheVariants.{Byte, Dual}
use Rattle.addr_words.specs.declared.nesting.Enclosure.{Enclosure}
use Rattle.addr_words.specs.declared.nesting.Enclosure.TheVariants.{DoubleQuote, SingleQuote, Bracket}
use Rattle.addr_words.specs.declared.nesting.OpenEnclosure.{OpenEnclosure}
use Rattle.addr_words.specs.declared.faults.WordFault.{WordFault}
use Rattle.addr_words.specs.declared.faults.WordFault.TheVariants as faults
use Rattle.addr_words.specs.Reading.{begun_by, is_ended_by, is_bracket, innermost, outermost, opened, escapes, is_dual, token, open_after, after_front, over_at, tokens_from}
use Rattle.addr_words.specs.FirstFaults.{IsClosed}
use Rattle.addr_words.proofs.Steps.{escape_read, dual_read, lone_read, last_read, next_read, at_end}
use Rattle.addr_words.proofs.Lies.{after_ok}
use Rattle.addr_words.proofs.Stands.{closing_of, closings, kinds_of, Fits, Fit, rest_stands, kinds_read, single_read, still_open, no_escape_at}

abbrev pub Fine : Result (List Token) WordFault → Type 0
Fine r = (tokens : List Token) × (r ≡ Ok tokens)

-- bytes are read to their end, where nothing is open
abbrev pub IsRead : List OpenEnclosure → ℕ → List ℕ → Type 0
IsRead around at bytes = Fine (tokens_from around at bytes)

pub fine_is : (r s : Result (List Token) WordFault) → r ≡ s → Fine s → Fine r
fine_is r s e f = (f.0, e ∙ f.1)

pub fine_after : (front : List Token) (r : Result (List Token) WordFault) → Fine r → Fine (after_front front r)
fine_after front r f = (front ++ f.0, ap (after_front front) f.1)

pub fine_behind : (front : List Token) (r : Result (List Token) WordFault) → Fine (after_front front r) → Fine r
fine_behind front r f = let a = after_ok front r f.0 f.1 in (a.0, a.1)

-- what stands behind some tokens is read where all is, and the reverse
pub read_behind : (front : List Token) (r s : Result (List Token) WordFault) → r ≡ after_front front s → Fine r → Fine s
read_behind front r s e f = fine_behind front s (fine_is (after_front front s) r (sym e) f)

pub read_after : (front : List Token) (r s : Result (List Token) WordFault) → r ≡ after_front front s → Fine s → Fine r
read_after front r s e f = fine_is r (after_front front s) e (fine_after front s f)

pub err_behind : (front : List Token) (r : Result (List Token) WordFault) (fault : WordFault) → after_front front r ≡ Err fault → r ≡ Err fault
err_behind front (Ok tokens) fault e = absurd cc
err_behind front (Err found) fault e = e

-- the fault of what stands behind some tokens
pub fault_behind : (front : List Token) (r s : Result (List Token) WordFault) (fault : WordFault) → r ≡ after_front front s → r ≡ Err fault → s ≡ Err fault
fault_behind front r s fault e f = err_behind front s fault (sym e ∙ f)

pub not_fine : (r : Result (List Token) WordFault) (fault : WordFault) → r ≡ Err fault → Fine r → ⊥
not_fine r fault e f = wrong r f.0 e f.1
  where
    wrong : (x : Result (List Token) WordFault) (tokens : List Token) → x ≡ Err fault → x ≡ Ok tokens → ⊥
    wrong x tokens p q = cc

-- something is open at the end
pub open_end : (o : OpenEnclosure) (around : List OpenEnclosure) (at : ℕ) → IsRead (o ∷ around) at [] → ⊥
open_end o around at f = still_open o around f.0 (sym (at_end (o ∷ around) at) ∙ f.1)

-- what is read from outside is closed, and the reverse
pub read_closed : (text : List ℕ) → IsRead [] 0 text → IsClosed text
read_closed text f = (kinds_of f.0, rest_stands [] 0 text tt f.0 f.1)

pub closed_read : (text : List ℕ) → IsClosed text → IsRead [] 0 text
closed_read text c = let r = kinds_read [] text c.0 c.1 [] 0 tt refl in (r.0, r.1)

-- a rest has no other fault than these
abbrev OfARest : WordFault → Type 0
OfARest (faults.Unclosed at) = Unit {0}
OfARest (faults.LoneBackslash at) = Unit {0}
OfARest faults.TooLong = ⊥
OfARest faults.Memory = ⊥

abbrev RestFaults : Result (List Token) WordFault → Type 0
RestFaults r = (fault : WordFault) → r ≡ Err fault → OfARest fault

over_faults : (begun : Option ℕ) → RestFaults (over_at begun)
over_faults None fault e = absurd cc
over_faults (Some at) fault e = subst OfARest (is at fault e) tt
  where
    failed : WordFault → Result (List Token) WordFault
    failed f = Err f

    is : (n : ℕ) (f : WordFault) → over_at (Some n) ≡ Err f → faults.Unclosed n ≡ f
    is n f h = cc

lone_faults : (at : ℕ) (r : Result (List Token) WordFault) → r ≡ Err (faults.LoneBackslash at) → RestFaults r
lone_faults at r lone fault e = subst OfARest (is r fault lone e) tt
  where
    is : (x : Result (List Token) WordFault) (f : WordFault) → x ≡ Err (faults.LoneBackslash at) → x ≡ Err f → faults.LoneBackslash at ≡ f
    is x f p q = cc

behind_faults : (front : List Token) (r s : Result (List Token) WordFault) → r ≡ after_front front s → RestFaults s → RestFaults r
behind_faults front r s e rest fault f = rest fault (fault_behind front r s fault e f)

last_faults : (around : List OpenEnclosure) (at b : ℕ) (x : Bool) → escapes (innermost around) b ≡ x → RestFaults (tokens_from (open_after around at b) (at + 1) []) → RestFaults (tokens_from around at (b ∷ []))
last_faults around at b true escaping rest = lone_faults at (tokens_from around at (b ∷ [])) (lone_read around at b escaping)
last_faults around at b false escaping rest = behind_faults _ _ _ (last_read around at b escaping) rest

next_faults : (around : List OpenEnclosure) (at b c : ℕ) (bytes : List ℕ) (x y : Bool) → escapes (innermost around) b ≡ x → is_dual (innermost around) b c ≡ y
    → RestFaults (tokens_from around (at + 2) bytes) → RestFaults (tokens_from (open_after around at b) (at + 1) (c ∷ bytes)) → RestFaults (tokens_from around at (b ∷ c ∷ bytes))
next_faults around at b c bytes true y escaping dual behind rest = behind_faults (token (Byte c) at (at + 2) ∷ []) _ _ (escape_read around at b c bytes escaping) behind
next_faults around at b c bytes false true escaping dual behind rest = behind_faults (token Dual at (at + 2) ∷ []) _ _ (dual_read around at b c bytes escaping dual) behind
next_faults around at b c bytes false false escaping dual behind rest = behind_faults _ _ _ (next_read around at b c bytes escaping dual) rest

pub rest_faults : (around : List OpenEnclosure) (at : ℕ) (bytes : List ℕ) → RestFaults (tokens_from around at bytes)
rest_faults around at [] fault e = over_faults (outermost around) fault (sym (at_end around at) ∙ e)
rest_faults around at (b ∷ []) fault e = last_faults around at b (escapes (innermost around) b) refl (rest_faults (open_after around at b) (at + 1) []) fault e
rest_faults around at (b ∷ c ∷ bytes) fault e =
    next_faults around at b c bytes (escapes (innermost around) b) (is_dual (innermost around) b c) refl refl (rest_faults around (at + 2) bytes) (rest_faults (open_after around at b) (at + 1) (c ∷ bytes)) fault e

-- A byte closes one thing at most, so as many bytes are read as there is open.
length_opened : (begun : Option Enclosure) (at : ℕ) (around : List OpenEnclosure) → length around ≤ length (opened begun at around)
length_opened None at around = omega arith
length_opened (Some e) at around = omega arith

shallower : (around : List OpenEnclosure) (at b : ℕ) → length around ≤ length (open_after around at b) + 1
shallower [] at b = omega arith
shallower (o ∷ around) at b = one (is_ended_by o.what b) (is_bracket o.what)
  where
    one : (x y : Bool) → length (o ∷ around) ≤ length (cond x around (cond y (opened (begun_by b) at (o ∷ around)) (o ∷ around))) + 1
    one true y = omega arith
    one false true = omega (arith, length_opened (begun_by b) at (o ∷ around))
    one false false = omega arith

last_deep : (around : List OpenEnclosure) (at b : ℕ) (x : Bool) → escapes (innermost around) b ≡ x
    → (IsRead (open_after around at b) (at + 1) [] → length (open_after around at b) ≤ 0) → IsRead around at (b ∷ []) → length around ≤ 1
last_deep around at b true escaping rest f = absurd (not_fine _ _ (lone_read around at b escaping) f)
last_deep around at b false escaping rest f = omega (arith, rest (read_behind _ _ _ (last_read around at b escaping) f), shallower around at b)

next_deep : (around : List OpenEnclosure) (at b c : ℕ) (bytes : List ℕ) (x y : Bool) → escapes (innermost around) b ≡ x → is_dual (innermost around) b c ≡ y
    → (IsRead around (at + 2) bytes → length around ≤ length bytes) → (IsRead (open_after around at b) (at + 1) (c ∷ bytes) → length (open_after around at b) ≤ length (c ∷ bytes))
    → IsRead around at (b ∷ c ∷ bytes) → length around ≤ length (b ∷ c ∷ bytes)
next_deep around at b c bytes true y escaping dual behind rest f = omega (arith, behind (read_behind (token (Byte c) at (at + 2) ∷ []) _ _ (escape_read around at b c bytes escaping) f))
next_deep around at b c bytes false true escaping dual behind rest f = omega (arith, behind (read_behind (token Dual at (at + 2) ∷ []) _ _ (dual_read around at b c bytes escaping dual) f))
next_deep around at b c bytes false false escaping dual behind rest f = omega (arith, rest (read_behind _ _ _ (next_read around at b c bytes escaping dual) f), shallower around at b)

pub deep : (around : List OpenEnclosure) (at : ℕ) (bytes : List ℕ) → IsRead around at bytes → length around ≤ length bytes
deep [] at [] f = omega arith
deep (o ∷ around) at [] f = absurd (open_end o around at f)
deep around at (b ∷ []) f = last_deep around at b (escapes (innermost around) b) refl (deep (open_after around at b) (at + 1) []) f
deep around at (b ∷ c ∷ bytes) f =
    next_deep around at b c bytes (escapes (innermost around) b) (is_dual (innermost around) b c) refl refl (deep around (at + 2) bytes) (deep (open_after around at b) (at + 1) (c ∷ bytes)) f

-- What is open is closed by the bytes that close it.
closes_itself : (w : Enclosure) → Fits w → (escapes (Some w) (closing_of w) ≡ false) × (is_ended_by w (closing_of w) ≡ true)
closes_itself DoubleQuote fits = (refl, refl)
closes_itself SingleQuote fits = (refl, refl)
closes_itself (Bracket e) fits = (fits.no_escape, eq-eqb e e refl)

pub closers_read : (around : List OpenEnclosure) (at : ℕ) → Fit around → IsRead around at (closings around)
closers_read [] at fit = ([], at_end [] at)
closers_read (o ∷ around) at fit =
    let f = closes_itself o.what fit.0 in
    let ended : open_after (o ∷ around) at (closing_of o.what) ≡ around = ap (λ (x : Bool). cond x around (cond (is_bracket o.what) (opened (begun_by (closing_of o.what)) at (o ∷ around)) (o ∷ around))) f.1 in
    read_after _ _ _ (single_read (o ∷ around) at (closing_of o.what) (closings around) f.0 refl)
    (subst (λ (os : List OpenEnclosure). IsRead os (at + 1) (closings around)) (sym ended) (closers_read around (at + 1) fit.1))

-- an opening bracket closes nothing
no_closer : (w : Enclosure) → Fits w → is_ended_by w 40 ≡ false
no_closer DoubleQuote fits = refl
no_closer SingleQuote fits = refl
no_closer (Bracket e) fits = fits.round

pub bracket_keeps : (o : OpenEnclosure) (around : List OpenEnclosure) (at : ℕ) (bytes : List ℕ) → Fits o.what → IsRead (o ∷ around) at (40 ∷ bytes) → length (o ∷ around) ≤ length bytes
bracket_keeps o around at bytes fits f =
    let behind = read_behind _ _ _ (single_read (o ∷ around) at 40 bytes (no_escape_at (Some o.what) 40 refl) refl) f in
    let stays : open_after (o ∷ around) at 40 ≡ cond (is_bracket o.what) (opened (begun_by 40) at (o ∷ around)) (o ∷ around) =
    ap (λ (x : Bool). cond x around (cond (is_bracket o.what) (opened (begun_by 40) at (o ∷ around)) (o ∷ around))) (no_closer o.what fits) in
    one (is_bracket o.what) (deep _ (at + 1) bytes (subst (λ (os : List OpenEnclosure). IsRead os (at + 1) bytes) stays behind))
  where
    one : (y : Bool) → length (cond y (opened (begun_by 40) at (o ∷ around)) (o ∷ around)) ≤ length bytes → length (o ∷ around) ≤ length bytes
    one true le = omega (arith, le)
    one false le = le
