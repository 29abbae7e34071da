-- What is read of the fronts of bytes that are unclosed, and of bytes that end with a lone backslash.
use Rattle.std.proofs.Common.{◌≡◌, ℕ, zero, suc, ◌+◌, ◌<◌, Bool, true, false, cond, List, [], ◌∷◌, ◌++◌, length, take, Option, Some, None, Result, Err, refl, sym, ap, subst, ◌∙◌, inl, inr, arith, append_assoc, length-append}
use Rattle.std.specs.Prelude.{◌⊎◌, ◌==◌}
use Rattle.std.proofs.lemmas.Bool.{eqb-true}
use Rattle.addr_words.specs.declared.token_list.Token.{Token}
use Rattle.addr_words.specs.declared.token_list.TokenKind.TheVariants.{Byte, Dual}
use Rattle.addr_words.specs.declared.nesting.Enclosure.{Enclosure}
use Rattle.addr_words.specs.declared.nesting.OpenEnclosure.{OpenEnclosure}
use Rattle.addr_words.specs.declared.faults.WordFault.{WordFault}
use Rattle.addr_words.specs.declared.faults.WordFault.TheVariants as faults
use Rattle.addr_words.specs.Reading.{begun_by, is_ended_by, is_bracket, innermost, outermost, opened, escapes, is_dual, meaning, token, single, open_after, after_front, over_at, tokens_from}
use Rattle.addr_words.specs.Spelling.{parts_halves}
use Rattle.addr_words.proofs.Steps.{escape_read, dual_read, lone_read, last_read, next_read, at_end}
use Rattle.addr_words.proofs.Stands.{closings, Fit, after_fit, single_read, whole_byte, backslash}
use Rattle.addr_words.proofs.Fronts.{IsRead, read_behind, read_after, fault_behind, not_fine, open_end}

abbrev failed : WordFault → Result (List Token) WordFault
failed fault = Err fault

over_open : (begun : Option ℕ) (from : ℕ) → over_at begun ≡ failed (faults.Unclosed from) → begun ≡ Some from
over_open None from e = absurd cc
over_open (Some at) from e = cc

over_lone : (begun : Option ℕ) (from : ℕ) → over_at begun ≡ failed (faults.LoneBackslash from) → ⊥
over_lone None from e = absurd cc
over_lone (Some at) from e = absurd cc

lone_not_open : (at from : ℕ) (r : Result (List Token) WordFault) → r ≡ Err (faults.LoneBackslash at) → r ≡ Err (faults.Unclosed from) → ⊥
lone_not_open at from r e f = cc

not_over : (around : List OpenEnclosure) (at from : ℕ) → outermost around ≡ Some from → IsRead around at [] → ⊥
not_over around at from is = not_fine (tokens_from around at []) (faults.Unclosed from) (at_end around at ∙ ap over_at is)

-- of bytes no front is read where what is open around them isn't closed
abbrev NeverRead : List OpenEnclosure → ℕ → List ℕ → Type 0
NeverRead around at bytes = (k : ℕ) → IsRead around at (take k bytes) → ⊥

-- the longest front that is read, behind which something opens
pub record LongestRead (around : List OpenEnclosure) (at : ℕ) (bytes : List ℕ) (from : ℕ) : Type 0 where
  pub count : ℕ
  pub place : from ≡ at + count
  pub within : count < length bytes
  pub read : IsRead around at (take count bytes)
  pub last : (k : ℕ) → count < k → IsRead around at (take k bytes) → ⊥

abbrev pub StaysOpen : List OpenEnclosure → ℕ → List ℕ → ℕ → Type 0
StaysOpen around at bytes from = ((outermost around ≡ Some from) × NeverRead around at bytes) ⊎ LongestRead around at bytes from

-- how far a byte is read with what follows it
abbrev Leads : List OpenEnclosure → ℕ → ℕ → List ℕ → Type 0
Leads around at b xs = (k : ℕ) → tokens_from around at (b ∷ take k xs) ≡ after_front (single (meaning (innermost around) b) at) (tokens_from (open_after around at b) (at + 1) (take k xs))

leads_last : (around : List OpenEnclosure) (at b : ℕ) → escapes (innermost around) b ≡ false → Leads around at b []
leads_last around at b escaping zero = last_read around at b escaping
leads_last around at b escaping (suc k) = last_read around at b escaping

leads_next : (around : List OpenEnclosure) (at b c : ℕ) (bytes : List ℕ) → escapes (innermost around) b ≡ false → is_dual (innermost around) b c ≡ false → Leads around at b (c ∷ bytes)
leads_next around at b c bytes escaping dual zero = last_read around at b escaping
leads_next around at b c bytes escaping dual (suc k) = next_read around at b c (take k bytes) escaping dual

opened_at : (begun : Option Enclosure) (at from : ℕ) → outermost (opened begun at []) ≡ Some from → from ≡ at
opened_at None at from e = absurd cc
opened_at (Some e) at from is = cc

outermost_kept : (o : OpenEnclosure) (around : List OpenEnclosure) (at b from : ℕ) → outermost (open_after (o ∷ around) at b) ≡ Some from → outermost (o ∷ around) ≡ Some from
outermost_kept o around at b from e = one (is_ended_by o.what b) (is_bracket o.what) e
  where
    inner : (xs : List OpenEnclosure) → outermost xs ≡ Some from → outermost (o ∷ xs) ≡ Some from
    inner [] e = absurd cc
    inner (p ∷ xs) e = e

    more : (begun : Option Enclosure) → outermost (opened begun at (o ∷ around)) ≡ Some from → outermost (o ∷ around) ≡ Some from
    more None e = e
    more (Some w) e = e

    one : (x y : Bool) → outermost (cond x around (cond y (opened (begun_by b) at (o ∷ around)) (o ∷ around))) ≡ Some from → outermost (o ∷ around) ≡ Some from
    one true y e = inner around e
    one false true e = more (begun_by b) e
    one false false e = e

-- a byte in front
byte_opens : (around : List OpenEnclosure) (at b : ℕ) (xs : List ℕ) (from : ℕ) → Leads around at b xs → StaysOpen (open_after around at b) (at + 1) xs from → StaysOpen around at (b ∷ xs) from
byte_opens [] at b xs from leads (inl (is, never)) = inr (record {
  count = 0;
  place = omega (arith, opened_at (begun_by b) at from is);
  within = omega arith;
  read = ([], at_end [] at);
  last = last;
})
  where
    last : (k : ℕ) → 0 < k → IsRead [] at (take k (b ∷ xs)) → ⊥
    last zero lt f = omega arith
    last (suc k) lt f = never k (read_behind _ _ _ (leads k) f)
byte_opens (o ∷ around) at b xs from leads (inl (is, never)) = inl (outermost_kept o around at b from is, all)
  where
    all : NeverRead (o ∷ around) at (b ∷ xs)
    all zero f = open_end o around at f
    all (suc k) f = never k (read_behind _ _ _ (leads k) f)
byte_opens around at b xs from leads (inr longest) = inr (record {
  count = suc longest.count;
  place = omega (arith, longest.place);
  within = omega (arith, longest.within);
  read = read_after _ _ _ (leads longest.count) longest.read;
  last = last;
})
  where
    last : (k : ℕ) → suc longest.count < k → IsRead around at (take k (b ∷ xs)) → ⊥
    last zero lt f = omega arith
    last (suc k) lt f = longest.last k (omega arith) (read_behind _ _ _ (leads k) f)

-- two bytes in front that are one token
two_open : (around : List OpenEnclosure) (at b c : ℕ) (bytes : List ℕ) (from : ℕ) (t : Token) → ((xs : List ℕ) → tokens_from around at (b ∷ c ∷ xs) ≡ after_front (t ∷ []) (tokens_from around (at + 2) xs))
    → (outermost around ≡ Some from → IsRead around at (b ∷ []) → ⊥) → StaysOpen around (at + 2) bytes from → StaysOpen around at (b ∷ c ∷ bytes) from
two_open around at b c bytes from t reads half (inl (is, never)) = inl (is, all)
  where
    all : NeverRead around at (b ∷ c ∷ bytes)
    all zero f = not_over around at from is f
    all (suc zero) f = half is f
    all (suc (suc k)) f = never k (read_behind (t ∷ []) _ _ (reads (take k bytes)) f)
two_open around at b c bytes from t reads half (inr longest) = inr (record {
  count = suc (suc longest.count);
  place = omega (arith, longest.place);
  within = omega (arith, longest.within);
  read = read_after (t ∷ []) _ _ (reads (take longest.count bytes)) longest.read;
  last = last;
})
  where
    last : (k : ℕ) → suc (suc longest.count) < k → IsRead around at (take k (b ∷ c ∷ bytes)) → ⊥
    last zero lt f = omega arith
    last (suc zero) lt f = omega arith
    last (suc (suc k)) lt f = longest.last k (omega arith) (read_behind (t ∷ []) _ _ (reads (take k bytes)) f)

-- two marks stand outside, where nothing is open
no_half : (around : List OpenEnclosure) (at b c from : ℕ) → is_dual (innermost around) b c ≡ true → outermost around ≡ Some from → IsRead around at (b ∷ []) → ⊥
no_half [] at b c from dual is f = absurd cc
no_half (o ∷ around) at b c from dual is f = absurd cc

abbrev RestOpens : List OpenEnclosure → ℕ → List ℕ → ℕ → Type 0
RestOpens around at bytes from = tokens_from around at bytes ≡ Err (faults.Unclosed from) → StaysOpen around at bytes from

last_opens : (around : List OpenEnclosure) (at b from : ℕ) (x : Bool) → escapes (innermost around) b ≡ x → RestOpens (open_after around at b) (at + 1) [] from → RestOpens around at (b ∷ []) from
last_opens around at b from true escaping rest e = absurd (lone_not_open at from _ (lone_read around at b escaping) e)
last_opens around at b from false escaping rest e = byte_opens around at b [] from (leads_last around at b escaping) (rest (fault_behind _ _ _ _ (last_read around at b escaping) e))

next_opens : (around : List OpenEnclosure) (at b c : ℕ) (bytes : List ℕ) (from : ℕ) (x y : Bool) → escapes (innermost around) b ≡ x → is_dual (innermost around) b c ≡ y
    → RestOpens around (at + 2) bytes from → RestOpens (open_after around at b) (at + 1) (c ∷ bytes) from → RestOpens around at (b ∷ c ∷ bytes) from
next_opens around at b c bytes from true y escaping dual behind rest e =
    two_open around at b c bytes from (token (Byte c) at (at + 2)) (λ xs. escape_read around at b c xs escaping) (λ is. not_fine _ _ (lone_read around at b escaping))
    (behind (fault_behind (token (Byte c) at (at + 2) ∷ []) _ _ _ (escape_read around at b c bytes escaping) e))
next_opens around at b c bytes from false true escaping dual behind rest e =
    two_open around at b c bytes from (token Dual at (at + 2)) (λ xs. dual_read around at b c xs escaping dual) (no_half around at b c from dual)
    (behind (fault_behind (token Dual at (at + 2) ∷ []) _ _ _ (dual_read around at b c bytes escaping dual) e))
next_opens around at b c bytes from false false escaping dual behind rest e =
    byte_opens around at b (c ∷ bytes) from (leads_next around at b c bytes escaping dual) (rest (fault_behind _ _ _ _ (next_read around at b c bytes escaping dual) e))

none_read : (around : List OpenEnclosure) (at from : ℕ) → outermost around ≡ Some from → NeverRead around at []
none_read around at from is zero f = not_over around at from is f
none_read around at from is (suc k) f = not_over around at from is f

-- where unclosed bytes stay open
pub rest_opens : (around : List OpenEnclosure) (at : ℕ) (bytes : List ℕ) (from : ℕ) → RestOpens around at bytes from
rest_opens around at [] from e = let is = over_open (outermost around) from (sym (at_end around at) ∙ e) in inl (is, none_read around at from is)
rest_opens around at (b ∷ []) from e = last_opens around at b from (escapes (innermost around) b) refl (rest_opens (open_after around at b) (at + 1) [] from) e
rest_opens around at (b ∷ c ∷ bytes) from e =
    next_opens around at b c bytes from (escapes (innermost around) b) (is_dual (innermost around) b c) refl refl (rest_opens around (at + 2) bytes from) (rest_opens (open_after around at b) (at + 1) (c ∷ bytes) from) e

-- Unclosed bytes are read with any more behind them as those are read where something is open.
pub record GoesOn (around : List OpenEnclosure) (at : ℕ) (bytes : List ℕ) : Type 0 where
  pub inner : OpenEnclosure
  pub outer : List OpenEnclosure
  pub next : ℕ
  pub fit : Fit (inner ∷ outer)
  pub there : (xs : List ℕ) → IsRead (inner ∷ outer) next xs → IsRead around at (bytes ++ xs)
  pub back : (xs : List ℕ) → IsRead around at (bytes ++ xs) → IsRead (inner ∷ outer) next xs

-- the same with something in front
goes_behind : (around next : List OpenEnclosure) (at to : ℕ) (bytes whole : List ℕ) (front : List Token)
    → ((xs : List ℕ) → tokens_from around at (whole ++ xs) ≡ after_front front (tokens_from next to (bytes ++ xs))) → GoesOn next to bytes → GoesOn around at whole
goes_behind around next at to bytes whole front reads on = record {
  inner = on.inner;
  outer = on.outer;
  next = on.next;
  fit = on.fit;
  there = λ xs f. read_after _ _ _ (reads xs) (on.there xs f);
  back = λ xs f. on.back xs (read_behind _ _ _ (reads xs) f);
}

abbrev RestGoesOn : List OpenEnclosure → ℕ → List ℕ → ℕ → Type 0
RestGoesOn around at bytes from = tokens_from around at bytes ≡ Err (faults.Unclosed from) → GoesOn around at bytes

over_goes_on : (around : List OpenEnclosure) (at from : ℕ) → Fit around → outermost around ≡ Some from → GoesOn around at []
over_goes_on [] at from fit is = absurd cc
over_goes_on (o ∷ around) at from fit is = record { inner = o; outer = around; next = at; fit = fit; there = λ xs f. f; back = λ xs f. f }

-- a byte that opens something is no mark between two halves
opener_halves : (around : List OpenEnclosure) (at b : ℕ) (xs : List ℕ) (from : ℕ) → outermost (open_after around at b) ≡ Some from → parts_halves (closings around) b xs ≡ false
opener_halves (o ∷ around) at b xs from is = refl
opener_halves [] at b xs from is = one (b == 33) refl
  where
    nothing : outermost (open_after [] at 33) ≡ Some from → ⊥
    nothing e = cc

    one : (x : Bool) → (b == 33) ≡ x → parts_halves [] b xs ≡ false
    one true h = absurd (nothing (subst (λ (n : ℕ). outermost (open_after [] at n) ≡ Some from) (eqb-true b 33 h) is))
    one false h = whole_byte [] b xs h

last_goes_on : (around : List OpenEnclosure) (at b from : ℕ) (x : Bool) → escapes (innermost around) b ≡ x → Fit around → RestGoesOn around at (b ∷ []) from
last_goes_on around at b from true escaping fit e = absurd (lone_not_open at from _ (lone_read around at b escaping) e)
last_goes_on around at b from false escaping fit e =
    let is = over_open (outermost (open_after around at b)) from (sym (at_end (open_after around at b) (at + 1)) ∙ fault_behind _ _ _ _ (last_read around at b escaping) e) in
    goes_behind around (open_after around at b) at (at + 1) [] (b ∷ []) (single (meaning (innermost around) b) at) (λ xs. single_read around at b xs escaping (opener_halves around at b xs from is))
    (over_goes_on (open_after around at b) (at + 1) from (after_fit around at b fit) is)

next_goes_on : (around : List OpenEnclosure) (at b c : ℕ) (bytes : List ℕ) (from : ℕ) (x y : Bool) → escapes (innermost around) b ≡ x → is_dual (innermost around) b c ≡ y
    → RestGoesOn around (at + 2) bytes from → RestGoesOn (open_after around at b) (at + 1) (c ∷ bytes) from → RestGoesOn around at (b ∷ c ∷ bytes) from
next_goes_on around at b c bytes from true y escaping dual behind rest e =
    goes_behind around around at (at + 2) bytes (b ∷ c ∷ bytes) (token (Byte c) at (at + 2) ∷ []) (λ xs. escape_read around at b c (bytes ++ xs) escaping)
    (behind (fault_behind (token (Byte c) at (at + 2) ∷ []) _ _ _ (escape_read around at b c bytes escaping) e))
next_goes_on around at b c bytes from false true escaping dual behind rest e =
    goes_behind around around at (at + 2) bytes (b ∷ c ∷ bytes) (token Dual at (at + 2) ∷ []) (λ xs. dual_read around at b c (bytes ++ xs) escaping dual)
    (behind (fault_behind (token Dual at (at + 2) ∷ []) _ _ _ (dual_read around at b c bytes escaping dual) e))
next_goes_on around at b c bytes from false false escaping dual behind rest e =
    goes_behind around (open_after around at b) at (at + 1) (c ∷ bytes) (b ∷ c ∷ bytes) (single (meaning (innermost around) b) at) (λ xs. next_read around at b c (bytes ++ xs) escaping dual)
    (rest (fault_behind _ _ _ _ (next_read around at b c bytes escaping dual) e))

pub rest_goes_on : (around : List OpenEnclosure) (at : ℕ) (bytes : List ℕ) (from : ℕ) → Fit around → RestGoesOn around at bytes from
rest_goes_on around at [] from fit e = over_goes_on around at from fit (over_open (outermost around) from (sym (at_end around at) ∙ e))
rest_goes_on around at (b ∷ []) from fit e = last_goes_on around at b from (escapes (innermost around) b) refl fit e
rest_goes_on around at (b ∷ c ∷ bytes) from fit e =
    next_goes_on around at b c bytes from (escapes (innermost around) b) (is_dual (innermost around) b c) refl refl (rest_goes_on around (at + 2) bytes from fit)
    (rest_goes_on (open_after around at b) (at + 1) (c ∷ bytes) from (after_fit around at b fit)) e

-- bytes that end with a backslash, which escapes whatever comes next
pub record EndsLone (around : List OpenEnclosure) (at : ℕ) (bytes : List ℕ) (from : ℕ) : Type 0 where
  pub front : List ℕ
  pub last : bytes ≡ front ++ 92 ∷ []
  pub place : from ≡ at + length front
  pub escapes : (b c : ℕ) (xs : List ℕ) → IsRead around at (bytes ++ b ∷ xs) → IsRead around at (bytes ++ c ∷ xs)

-- the same with one or two bytes in front
lone_behind : (around next : List OpenEnclosure) (at to : ℕ) (bytes mine : List ℕ) (from : ℕ) (front : List Token)
    → to ≡ at + length mine → ((xs : List ℕ) → tokens_from around at (mine ++ (bytes ++ xs)) ≡ after_front front (tokens_from next to (bytes ++ xs)))
    → EndsLone next to bytes from → EndsLone around at (mine ++ bytes) from
lone_behind around next at to bytes mine from front go reads lone = record {
  front = mine ++ lone.front;
  last = ap (λ (xs : List ℕ). mine ++ xs) lone.last ∙ sym (append_assoc mine lone.front (92 ∷ []));
  place = omega (arith, go, lone.place, length-append mine lone.front);
  escapes = λ b c xs f.
      subst (IsRead around at) (sym (append_assoc mine bytes (c ∷ xs)))
      (read_after _ _ _ (reads (c ∷ xs)) (lone.escapes b c xs (read_behind _ _ _ (reads (b ∷ xs)) (subst (IsRead around at) (append_assoc mine bytes (b ∷ xs)) f))));
}

abbrev RestEndsLone : List OpenEnclosure → ℕ → List ℕ → ℕ → Type 0
RestEndsLone around at bytes from = tokens_from around at bytes ≡ Err (faults.LoneBackslash from) → EndsLone around at bytes from

same_lone : (at from : ℕ) (r : Result (List Token) WordFault) → r ≡ Err (faults.LoneBackslash at) → r ≡ Err (faults.LoneBackslash from) → from ≡ at
same_lone at from r e f = cc

last_ends_lone : (around : List OpenEnclosure) (at b from : ℕ) (x : Bool) → escapes (innermost around) b ≡ x → RestEndsLone around at (b ∷ []) from
last_ends_lone around at b from true escaping e = record {
  front = [];
  last = ap (λ (n : ℕ). n ∷ []) (backslash (innermost around) b escaping);
  place = omega (arith, same_lone at from _ (lone_read around at b escaping) e);
  escapes = λ c d xs f. read_after (token (Byte d) at (at + 2) ∷ []) _ _ (escape_read around at b d xs escaping) (read_behind (token (Byte c) at (at + 2) ∷ []) _ _ (escape_read around at b c xs escaping) f);
}
last_ends_lone around at b from false escaping e =
    absurd (over_lone (outermost (open_after around at b)) from (sym (at_end (open_after around at b) (at + 1)) ∙ fault_behind _ _ _ _ (last_read around at b escaping) e))

next_ends_lone : (around : List OpenEnclosure) (at b c : ℕ) (bytes : List ℕ) (from : ℕ) (x y : Bool) → escapes (innermost around) b ≡ x → is_dual (innermost around) b c ≡ y
    → RestEndsLone around (at + 2) bytes from → RestEndsLone (open_after around at b) (at + 1) (c ∷ bytes) from → RestEndsLone around at (b ∷ c ∷ bytes) from
next_ends_lone around at b c bytes from true y escaping dual behind rest e =
    lone_behind around around at (at + 2) bytes (b ∷ c ∷ []) from (token (Byte c) at (at + 2) ∷ []) (omega arith) (λ xs. escape_read around at b c (bytes ++ xs) escaping)
    (behind (fault_behind (token (Byte c) at (at + 2) ∷ []) _ _ _ (escape_read around at b c bytes escaping) e))
next_ends_lone around at b c bytes from false true escaping dual behind rest e =
    lone_behind around around at (at + 2) bytes (b ∷ c ∷ []) from (token Dual at (at + 2) ∷ []) (omega arith) (λ xs. dual_read around at b c (bytes ++ xs) escaping dual)
    (behind (fault_behind (token Dual at (at + 2) ∷ []) _ _ _ (dual_read around at b c bytes escaping dual) e))
next_ends_lone around at b c bytes from false false escaping dual behind rest e =
    lone_behind around (open_after around at b) at (at + 1) (c ∷ bytes) (b ∷ []) from (single (meaning (innermost around) b) at) (omega arith) (λ xs. next_read around at b c (bytes ++ xs) escaping dual)
    (rest (fault_behind _ _ _ _ (next_read around at b c bytes escaping dual) e))

pub rest_ends_lone : (around : List OpenEnclosure) (at : ℕ) (bytes : List ℕ) (from : ℕ) → RestEndsLone around at bytes from
rest_ends_lone around at [] from e = absurd (over_lone (outermost around) from (sym (at_end around at) ∙ e))
rest_ends_lone around at (b ∷ []) from e = last_ends_lone around at b from (escapes (innermost around) b) refl e
rest_ends_lone around at (b ∷ c ∷ bytes) from e =
    next_ends_lone around at b c bytes from (escapes (innermost around) b) (is_dual (innermost around) b c) refl refl (rest_ends_lone around (at + 2) bytes from) (rest_ends_lone (open_after around at b) (at + 1) (c ∷ bytes) from) e
