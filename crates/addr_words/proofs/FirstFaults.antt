-- A text's fault as it is read is the one that it has by what it spells.
use Rattle.std.proofs.Common.{◌≡◌, ℕ, ◌+◌, ◌<◌, ◌≤◌, Bool, true, false, List, [], ◌∷◌, ◌++◌, length, take, Result, Ok, Err, refl, sym, ap, subst, inl, inr, arith}
use Rattle.std.specs.Prelude.{nat_lt, if◌then◌else◌, ◌⊎◌, map, IfErr}
use Rattle.std.proofs.lemmas.Bool.{ltb-false, ltb-true}
use Rattle.std.proofs.lemmas.List.{take_all}
use Rattle.addr_words.specs.declared.token_list.Token.{Token}
use Rattle.addr_words.specs.declared.nesting.OpenEnclosure.{OpenEnclosure}
use Rattle.addr_words.specs.declared.faults.WordFault.{WordFault}
use Rattle.addr_words.specs.declared.faults.WordFault.TheVariants as faults
use Rattle.addr_words.specs.Reading.{tokens_from, tokens_of, Reports, Reads}
use Rattle.addr_words.specs.FirstFaults.{IsClosed, EscapesNext, IsLoneAt, IsUnclosedAt, IsFaultOf, HaveAtMostOne, ClosedHaveNone}
use Rattle.addr_words.specs.Spelling.{SpellsKinds}
use Rattle.addr_words.proofs.Lies.{limit_ok}
use Rattle.addr_words.proofs.Stands.{closings, rest_stands}
use Rattle.addr_words.proofs.Fronts.{IsRead, not_fine, read_closed, closed_read, rest_faults, closers_read, bracket_keeps}
use Rattle.addr_words.proofs.Unclosed.{StaysOpen, rest_opens, GoesOn, rest_goes_on, EndsLone, rest_ends_lone}

length_closings : (around : List OpenEnclosure) → length (closings around) ≡ length around
length_closings [] = refl
length_closings (o ∷ around) = omega (arith, length_closings around)

-- what closes a text that is unclosed doesn't close it with a bracket that opens in place of its first byte
no_lone : (text : List ℕ) → GoesOn [] 0 text → EscapesNext text → ⊥
no_lone text on escapes =
    let outer = closings on.outer in
    let closed : IsClosed (text ++ closings (on.inner ∷ on.outer)) = read_closed _ (on.there (closings (on.inner ∷ on.outer)) (closers_read (on.inner ∷ on.outer) on.next on.fit)) in
    let other = on.back (40 ∷ outer) (closed_read _ (escapes _ 40 outer closed)) in
    omega (arith, bracket_keeps on.inner on.outer on.next outer on.fit.0 other, length_closings on.outer)

unclosed_at : (text : List ℕ) (at : ℕ) → tokens_from [] 0 text ≡ Err (faults.Unclosed at) → StaysOpen [] 0 text at → IsUnclosedAt text at
unclosed_at text at e (inl (is, never)) = absurd cc
unclosed_at text at e (inr longest) =
    let here : longest.count ≡ at = omega (arith, longest.place) in record {
      within = subst (λ (n : ℕ). n < length text) here longest.within;
      closed = read_closed _ (subst (λ (n : ℕ). IsRead [] 0 (take n text)) here longest.read);
      last = λ k lt closed. longest.last k (subst (λ (n : ℕ). n < k) (sym here) lt) (closed_read _ closed);
      no_lone = no_lone text (rest_goes_on [] 0 text at tt e);
    }

lone_at : (text : List ℕ) (at : ℕ) → tokens_from [] 0 text ≡ Err (faults.LoneBackslash at) → EndsLone [] 0 text at → IsLoneAt text at
lone_at text at e lone = record {
  front = lone.front;
  last = lone.last;
  place = omega (arith, lone.place);
  escapes = λ b c xs closed. read_closed _ (lone.escapes b c xs (closed_read _ closed));
  not_closed = λ closed. not_fine _ _ e (closed_read text closed);
}

failed_is : (fault other : WordFault) (r : Result (List Token) WordFault) → r ≡ Err fault → Err other ≡ r → other ≡ fault
failed_is fault other r e f = cc

limit_fault : (text : List ℕ) (fault : WordFault) (long : Bool) → nat_lt 65536 (length text) ≡ long → (if long then Err faults.TooLong else tokens_from [] 0 text) ≡ Err fault
    → ((65536 < length text) × (faults.TooLong ≡ fault)) ⊎ ((length text ≤ 65536) × (tokens_from [] 0 text ≡ Err fault))
limit_fault text fault true h e = inl (ltb-true 65536 (length text) h, failed_is fault faults.TooLong _ e refl)
limit_fault text fault false h e = inr (ltb-false 65536 (length text) h, e)

pub told_fault : (text : List ℕ) (fault : WordFault) → tokens_of text ≡ Err fault → IsFaultOf text fault
told_fault text fault e = one fault (limit_fault text fault (nat_lt 65536 (length text)) refl e)
  where
    one : (f : WordFault) → ((65536 < length text) × (faults.TooLong ≡ f)) ⊎ ((length text ≤ 65536) × (tokens_from [] 0 text ≡ Err f)) → IsFaultOf text f
    one f (inl (long, is)) = subst (IsFaultOf text) is long
    one (faults.Unclosed at) (inr (short, read)) = (short, unclosed_at text at read (rest_opens [] 0 text at read))
    one (faults.LoneBackslash at) (inr (short, read)) = (short, lone_at text at read (rest_ends_lone [] 0 text at read))
    one faults.TooLong (inr (short, read)) = absurd (rest_faults [] 0 text faults.TooLong read)
    one faults.Memory (inr (short, read)) = tt

-- the fault that is reported
pub fault_stands : (text : List ℕ) (fault : WordFault) → Reports fault (tokens_of text) → IsFaultOf text fault
fault_stands text (faults.Unclosed at) e = told_fault text (faults.Unclosed at) e
fault_stands text (faults.LoneBackslash at) e = told_fault text (faults.LoneBackslash at) e
fault_stands text faults.TooLong e = told_fault text faults.TooLong e
fault_stands text faults.Memory e = tt

pub read_fault : (text : List ℕ) (r : Result (List Token) WordFault) → Reads r (tokens_of text) → IfErr r (IsFaultOf text)
read_fault text (Ok tokens) e = tt
read_fault text (Err fault) e = fault_stands text fault e

-- what was read is spelled so
pub words_spelled : (text : List ℕ) (tokens : List Token) → tokens_of text ≡ Ok tokens → SpellsKinds [] text (map (λ t. t.kind) tokens)
words_spelled text tokens e = rest_stands [] 0 text tt tokens (limit_ok (nat_lt 65536 (length text)) (tokens_from [] 0 text) tokens e)

not_before : (text : List ℕ) (one other : ℕ) → IsUnclosedAt text one → IsUnclosedAt text other → one < other → ⊥
not_before text one other a b lt = a.last other lt b.closed

pub closed_have_none : ClosedHaveNone
closed_have_none text (faults.Unclosed at) le closed (short, f) =
    absurd (f.last (length text) f.within (subst IsClosed (sym (take_all (length text) text (omega arith))) closed))
closed_have_none text (faults.LoneBackslash at) le closed (short, f) = absurd (f.not_closed closed)
closed_have_none text faults.TooLong le closed long = absurd (omega arith)
closed_have_none text faults.Memory le closed f = refl

length_last : (front : List ℕ) → length (front ++ 92 ∷ []) ≡ length front + 1
length_last [] = refl
length_last (b ∷ front) = omega (arith, length_last front)

lone_place : (text : List ℕ) (at : ℕ) → IsLoneAt text at → at + 1 ≡ length text
lone_place text at f = omega (arith, f.place, length_last f.front, ap length f.last)

pub have_at_most_one : HaveAtMostOne
have_at_most_one text (faults.Unclosed a) (faults.Unclosed b) (sa, fa) (sb, fb) m n =
    ap faults.Unclosed (omega (arith, not_before text a b fa fb, not_before text b a fb fa))
have_at_most_one text (faults.Unclosed a) (faults.LoneBackslash b) (sa, fa) (sb, fb) m n = absurd (fa.no_lone fb.escapes)
have_at_most_one text (faults.Unclosed a) faults.TooLong (sa, fa) long m n = absurd (omega arith)
have_at_most_one text (faults.LoneBackslash a) (faults.Unclosed b) (sa, fa) (sb, fb) m n = absurd (fb.no_lone fa.escapes)
have_at_most_one text (faults.LoneBackslash a) (faults.LoneBackslash b) (sa, fa) (sb, fb) m n = ap faults.LoneBackslash (omega (arith, lone_place text a fa, lone_place text b fb))
have_at_most_one text (faults.LoneBackslash a) faults.TooLong (sa, fa) long m n = absurd (omega arith)
have_at_most_one text faults.TooLong (faults.Unclosed b) long (sb, fb) m n = absurd (omega arith)
have_at_most_one text faults.TooLong (faults.LoneBackslash b) long (sb, fb) m n = absurd (omega arith)
have_at_most_one text faults.TooLong faults.TooLong long other m n = refl
have_at_most_one text faults.Memory other f g m n = absurd (m refl)
have_at_most_one text one faults.Memory f g m n = absurd (n refl)
