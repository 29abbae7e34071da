-- The front of a text is read up to a mark as the whole is.
use Rattle.std.proofs.Common.{◌≡◌, ℕ, zero, suc, ◌+◌, Bool, true, false, cond, ◌==◌, List, [], ◌∷◌, ◌++◌, take, Option, Some, None, Result, Ok, Err, refl, sym, ap, subst, ◌∙◌, arith}
use Rattle.std.proofs.lemmas.Bool.{eqb-true, and_parts}
use Rattle.addr_words.specs.declared.token_list.Token.{Token}
use Rattle.addr_words.specs.declared.token_list.TokenKind.{TokenKind}
use Rattle.addr_words.specs.declared.token_list.TokenKind.TheVariants.{Byte, Colon, Comma, Dual, Equals}
use Rattle.addr_words.specs.declared.nesting.Enclosure.{Enclosure}
use Rattle.addr_words.specs.declared.nesting.Enclosure.TheVariants.{DoubleQuote, SingleQuote, Bracket}
use Rattle.addr_words.specs.declared.nesting.OpenEnclosure.{OpenEnclosure}
use Rattle.addr_words.specs.declared.faults.WordFault.{WordFault}
use Rattle.addr_words.specs.declared.faults.WordFault.TheVariants as faults
use Rattle.addr_words.specs.Reading.{is_quote, innermost, outermost, escapes, is_dual, mark, meaning, token, single, open_after, after_front, over_at, tokens_from}
use Rattle.addr_words.specs.Spelling.{parts_halves}
use Rattle.addr_words.proofs.Steps.{escape_read, dual_read, lone_read, last_read, next_read, at_end}
use Rattle.addr_words.proofs.Lies.{after_ok}
use Rattle.addr_words.proofs.Stands.{closings, single_read, alone, dual_halves}

-- some bytes in front are read as these tokens, up to this offset
pub record ReadTo (around : List OpenEnclosure) (at : ℕ) (bytes : List ℕ) (front : List Token) (to : ℕ) : Type 0 where
  pub count : ℕ
  pub place : to ≡ at + count
  pub read : tokens_from around at (take count bytes) ≡ Ok front

-- what is read last where the bytes are cut at a token of these kinds
pub record Ending (Q : TokenKind → Type 0) (last : Token → List Token) (to : Token → ℕ) : Type 0 where
  pub no_byte : (b : ℕ) → Q (Byte b) → ⊥
  pub one : (around : List OpenEnclosure) (at b : ℕ) (bytes : List ℕ) (kind : TokenKind) → meaning (innermost around) b ≡ Some kind → Q kind
      → ReadTo around at (b ∷ bytes) (last (token kind at (at + 1))) (to (token kind at (at + 1)))
  pub two : (around : List OpenEnclosure) (at b c : ℕ) (bytes : List ℕ) → is_dual (innermost around) b c ≡ true → Q Dual
      → ReadTo around at (b ∷ c ∷ bytes) (last (token Dual at (at + 2))) (to (token Dual at (at + 2)))

abbrev pub EndsAt : (Q : TokenKind → Type 0) (last : Token → List Token) (to : Token → ℕ) (around : List OpenEnclosure) (at : ℕ) (bytes : List ℕ) → Type 0
EndsAt Q last to around at bytes =
    (tokens : List Token) → tokens_from around at bytes ≡ Ok tokens → (front : List Token) (t : Token) (back : List Token) → tokens ≡ front ++ t ∷ back → Q t.kind → ReadTo around at bytes (front ++ last t) (to t)

head_is : (t u : Token) (ts us : List Token) → t ∷ ts ≡ u ∷ us → t ≡ u
head_is t u ts us e = cc

tail_is : (t u : Token) (ts us : List Token) → t ∷ ts ≡ u ∷ us → ts ≡ us
tail_is t u ts us e = cc

no_tokens : (front : List Token) (t : Token) (back : List Token) → [] ≡ front ++ t ∷ back → ⊥
no_tokens [] t back e = cc
no_tokens (u ∷ front) t back e = cc

over_none : (begun : Option ℕ) (tokens : List Token) → over_at begun ≡ Ok tokens → [] ≡ tokens
over_none None tokens e = cc
over_none (Some at) tokens e = absurd cc

not_ok : (fault : WordFault) (r : Result (List Token) WordFault) (tokens : List Token) → r ≡ Err fault → r ≡ Ok tokens → ⊥
not_ok fault r tokens e f = cc

-- how a byte is read in front of any front of what follows
abbrev Alone : List OpenEnclosure → ℕ → List ℕ → Type 0
Alone around b bytes = (k : ℕ) → parts_halves (closings around) b (take k bytes) ≡ false

none_alone : (around : List OpenEnclosure) (b : ℕ) → Alone around b []
none_alone around b zero = alone around b
none_alone around b (suc k) = alone around b

next_alone : (around : List OpenEnclosure) (b c : ℕ) (bytes : List ℕ) → is_dual (innermost around) b c ≡ false → Alone around b (c ∷ bytes)
next_alone around b c bytes e zero = alone around b
next_alone around b c bytes e (suc k) = dual_halves around b c (take k bytes) e

-- with a byte in front
behind_byte : (around : List OpenEnclosure) (at b : ℕ) (bytes : List ℕ) (front : List Token) (to : ℕ) → escapes (innermost around) b ≡ false → Alone around b bytes
    → ReadTo (open_after around at b) (at + 1) bytes front to → ReadTo around at (b ∷ bytes) (single (meaning (innermost around) b) at ++ front) to
behind_byte around at b bytes front to escaping halves r = record {
  count = suc r.count;
  place = omega (arith, r.place);
  read = single_read around at b (take r.count bytes) escaping (halves r.count) ∙ ap (after_front (single (meaning (innermost around) b) at)) r.read;
}

byte_ends : (Q : TokenKind → Type 0) (last : Token → List Token) (to : Token → ℕ) → Ending Q last to → (around : List OpenEnclosure) (at b : ℕ) (bytes : List ℕ) → escapes (innermost around) b ≡ false → Alone around b bytes
    → tokens_from around at (b ∷ bytes) ≡ after_front (single (meaning (innermost around) b) at) (tokens_from (open_after around at b) (at + 1) bytes)
    → EndsAt Q last to (open_after around at b) (at + 1) bytes → EndsAt Q last to around at (b ∷ bytes)
byte_ends Q last to ending around at b bytes escaping halves reads rest tokens e front t back is q =
    let a = after_ok (single (meaning (innermost around) b) at) (tokens_from (open_after around at b) (at + 1) bytes) tokens (sym reads ∙ e) in
    one (meaning (innermost around) b) refl a.0 a.1 front (sym a.2 ∙ is)
  where
    behind : (m : Option TokenKind) → meaning (innermost around) b ≡ m → (others : List Token) → tokens_from (open_after around at b) (at + 1) bytes ≡ Ok others → (before : List Token) → others ≡ before ++ t ∷ back
        → ReadTo around at (b ∷ bytes) (single m at ++ (before ++ last t)) (to t)
    behind m means others read before same =
        subst (λ (x : Option TokenKind). ReadTo around at (b ∷ bytes) (single x at ++ (before ++ last t)) (to t)) means (behind_byte around at b bytes (before ++ last t) (to t) escaping halves (rest others read before t back same q))

    one : (m : Option TokenKind) → meaning (innermost around) b ≡ m → (others : List Token) → tokens_from (open_after around at b) (at + 1) bytes ≡ Ok others → (before : List Token) → single m at ++ others ≡ before ++ t ∷ back
        → ReadTo around at (b ∷ bytes) (before ++ last t) (to t)
    one None means others read before same = behind None means others read before same
    one (Some kind) means others read [] same =
        let here : token kind at (at + 1) ≡ t = head_is (token kind at (at + 1)) t others back same in
        subst (λ (u : Token). ReadTo around at (b ∷ bytes) (last u) (to u)) here (ending.one around at b bytes kind means (subst (λ (u : Token). Q u.kind) (sym here) q))
    one (Some kind) means others read (u ∷ before) same =
        subst (λ (v : Token). ReadTo around at (b ∷ bytes) (v ∷ (before ++ last t)) (to t)) (head_is (token kind at (at + 1)) u others (before ++ t ∷ back) same)
        (behind (Some kind) means others read before (tail_is (token kind at (at + 1)) u others (before ++ t ∷ back) same))

-- with a token of two bytes in front
two_ends : (Q : TokenKind → Type 0) (last : Token → List Token) (to : Token → ℕ) (around : List OpenEnclosure) (at b c : ℕ) (bytes : List ℕ) (first : Token)
    → ((xs : List ℕ) → tokens_from around at (b ∷ c ∷ xs) ≡ after_front (first ∷ []) (tokens_from around (at + 2) xs))
    → (Q first.kind → ReadTo around at (b ∷ c ∷ bytes) (last first) (to first)) → EndsAt Q last to around (at + 2) bytes → EndsAt Q last to around at (b ∷ c ∷ bytes)
two_ends Q last to around at b c bytes first reads here rest tokens e front t back is q =
    let a = after_ok (first ∷ []) (tokens_from around (at + 2) bytes) tokens (sym (reads bytes) ∙ e) in
    one a.0 a.1 front (sym a.2 ∙ is)
  where
    one : (others : List Token) → tokens_from around (at + 2) bytes ≡ Ok others → (before : List Token) → first ∷ others ≡ before ++ t ∷ back → ReadTo around at (b ∷ c ∷ bytes) (before ++ last t) (to t)
    one others read [] same =
        let is_first : first ≡ t = head_is first t others back same in
        subst (λ (u : Token). ReadTo around at (b ∷ c ∷ bytes) (last u) (to u)) is_first (here (subst (λ (u : Token). Q u.kind) (sym is_first) q))
    one others read (u ∷ before) same =
        let r = rest others read before t back (tail_is first u others (before ++ t ∷ back) same) q in
        subst (λ (v : Token). ReadTo around at (b ∷ c ∷ bytes) (v ∷ (before ++ last t)) (to t)) (head_is first u others (before ++ t ∷ back) same) (record {
          count = suc (suc r.count);
          place = omega (arith, r.place);
          read = reads (take r.count bytes) ∙ ap (after_front (first ∷ [])) r.read;
        })

last_ends : (Q : TokenKind → Type 0) (last : Token → List Token) (to : Token → ℕ) → Ending Q last to → (around : List OpenEnclosure) (at b : ℕ) (x : Bool) → escapes (innermost around) b ≡ x
    → EndsAt Q last to (open_after around at b) (at + 1) [] → EndsAt Q last to around at (b ∷ [])
last_ends Q last to ending around at b true escaping rest tokens e front t back is q = absurd (not_ok (faults.LoneBackslash at) _ tokens (lone_read around at b escaping) e)
last_ends Q last to ending around at b false escaping rest tokens e front t back is q =
    byte_ends Q last to ending around at b [] escaping (none_alone around b) (last_read around at b escaping) rest tokens e front t back is q

next_ends : (Q : TokenKind → Type 0) (last : Token → List Token) (to : Token → ℕ) → Ending Q last to → (around : List OpenEnclosure) (at b c : ℕ) (bytes : List ℕ) (x y : Bool) → escapes (innermost around) b ≡ x → is_dual (innermost around) b c ≡ y
    → EndsAt Q last to around (at + 2) bytes → EndsAt Q last to (open_after around at b) (at + 1) (c ∷ bytes) → EndsAt Q last to around at (b ∷ c ∷ bytes)
next_ends Q last to ending around at b c bytes true y escaping dual behind rest =
    two_ends Q last to around at b c bytes (token (Byte c) at (at + 2)) (λ xs. escape_read around at b c xs escaping) (λ q. absurd (ending.no_byte c q)) behind
next_ends Q last to ending around at b c bytes false true escaping dual behind rest =
    two_ends Q last to around at b c bytes (token Dual at (at + 2)) (λ xs. dual_read around at b c xs escaping dual) (ending.two around at b c bytes dual) behind
next_ends Q last to ending around at b c bytes false false escaping dual behind rest =
    byte_ends Q last to ending around at b (c ∷ bytes) escaping (next_alone around b c bytes dual) (next_read around at b c bytes escaping dual) rest

pub rest_ends : (Q : TokenKind → Type 0) (last : Token → List Token) (to : Token → ℕ) → Ending Q last to → (around : List OpenEnclosure) (at : ℕ) (bytes : List ℕ) → EndsAt Q last to around at bytes
rest_ends Q last to ending around at [] tokens e front t back is q = absurd (no_tokens front t back (over_none (outermost around) tokens (sym (at_end around at) ∙ e) ∙ is))
rest_ends Q last to ending around at (b ∷ []) tokens e front t back is q =
    last_ends Q last to ending around at b (escapes (innermost around) b) refl (rest_ends Q last to ending (open_after around at b) (at + 1) []) tokens e front t back is q
rest_ends Q last to ending around at (b ∷ c ∷ bytes) tokens e front t back is q =
    next_ends Q last to ending around at b c bytes (escapes (innermost around) b) (is_dual (innermost around) b c) refl refl (rest_ends Q last to ending around (at + 2) bytes)
    (rest_ends Q last to ending (open_after around at b) (at + 1) (c ∷ bytes)) tokens e front t back is q

some_is : (k l : TokenKind) → Some k ≡ Some l → k ≡ l
some_is k l e = cc

-- inside, a byte is none of the marks
no_mark_inside : (w : Enclosure) (b : ℕ) (kind : TokenKind) → meaning (Some w) b ≡ Some kind → kind ≡ Byte b
no_mark_inside DoubleQuote b kind e = one (b == 34) e
  where
    one : (x : Bool) → cond x None (Some (Byte b)) ≡ Some kind → kind ≡ Byte b
    one true e = absurd cc
    one false e = sym (some_is (Byte b) kind e)
no_mark_inside SingleQuote b kind e = one (b == 39) e
  where
    one : (x : Bool) → cond x None (Some (Byte b)) ≡ Some kind → kind ≡ Byte b
    one true e = absurd cc
    one false e = sym (some_is (Byte b) kind e)
no_mark_inside (Bracket closing) b kind e = one (is_quote b) e
  where
    one : (x : Bool) → cond x None (Some (Byte b)) ≡ Some kind → kind ≡ Byte b
    one true e = absurd cc
    one false e = sym (some_is (Byte b) kind e)

-- outside, a byte is one that means this mark
means_mark : (b : ℕ) (kind : TokenKind) → meaning None b ≡ Some kind → mark b ≡ kind
means_mark b kind e = one (is_quote b) e
  where
    one : (x : Bool) → cond x None (Some (mark b)) ≡ Some kind → mark b ≡ kind
    one true e = absurd cc
    one false e = some_is (mark b) kind e

comma_byte : (b : ℕ) → mark b ≡ Comma → b ≡ 44
comma_byte b e = one (b == 58) (b == 44) (b == 61) refl e
  where
    one : (x y z : Bool) → (b == 44) ≡ y → cond x Colon (cond y Comma (cond z Equals (Byte b))) ≡ Comma → b ≡ 44
    one true y z h e = absurd cc
    one false true z h e = eqb-true b 44 h
    one false false true h e = absurd cc
    one false false false h e = absurd cc

no_dual_byte : (b : ℕ) → mark b ≡ Dual → ⊥
no_dual_byte b e = one (b == 58) (b == 44) (b == 61) e
  where
    one : (x y z : Bool) → cond x Colon (cond y Comma (cond z Equals (Byte b))) ≡ Dual → ⊥
    one true y z e = cc
    one false true z e = cc
    one false false true e = cc
    one false false false e = cc

abbrev pub whole : Token → List Token
whole t = t ∷ []

-- the first of two exclamation marks alone
abbrev pub half : Token → List Token
half t = token (Byte 33) t.from (t.from + 1) ∷ []

byte_no_comma : (b : ℕ) → Byte b ≡ Comma → ⊥
byte_no_comma b e = cc

byte_no_dual : (b : ℕ) → Byte b ≡ Dual → ⊥
byte_no_dual b e = cc

abbrev CommaAt : List OpenEnclosure → ℕ → ℕ → List ℕ → TokenKind → Type 0
CommaAt around at b bytes kind = ReadTo around at (b ∷ bytes) (token kind at (at + 1) ∷ []) (at + 1)

comma_one : (around : List OpenEnclosure) (at b : ℕ) (bytes : List ℕ) (kind : TokenKind) → meaning (innermost around) b ≡ Some kind → kind ≡ Comma → CommaAt around at b bytes kind
comma_one (o ∷ around) at b bytes kind means is = absurd (byte_no_comma b (sym (no_mark_inside o.what b kind means) ∙ is))
comma_one [] at b bytes kind means is =
    subst (CommaAt [] at b bytes) (sym is) (subst (λ (n : ℕ). CommaAt [] at n bytes Comma) (sym (comma_byte b (means_mark b kind means ∙ is))) (record {
      count = 1;
      place = refl;
      read = last_read [] at 44 refl ∙ ap (after_front (token Comma at (at + 1) ∷ [])) (at_end [] (at + 1));
    }))

dual_no_comma : Dual ≡ Comma → ⊥
dual_no_comma e = cc

-- a text that is cut behind a comma
pub at_comma : Ending (λ kind. kind ≡ Comma) whole (λ t. t.to)
at_comma = record { no_byte = byte_no_comma; one = comma_one; two = λ around at b c bytes dual is. absurd (dual_no_comma is) }

no_dual_one : (around : List OpenEnclosure) (b : ℕ) (kind : TokenKind) → meaning (innermost around) b ≡ Some kind → kind ≡ Dual → ⊥
no_dual_one [] b kind means is = no_dual_byte b (means_mark b kind means ∙ is)
no_dual_one (o ∷ around) b kind means is = byte_no_dual b (sym (no_mark_inside o.what b kind means) ∙ is)

-- two marks, the whole and its half
both_marks : (P : List OpenEnclosure → ℕ → ℕ → Type 0) → P [] 33 33 → (around : List OpenEnclosure) (b c : ℕ) → is_dual (innermost around) b c ≡ true → P around b c
both_marks P p [] b c dual =
    let marks = and_parts (b == 33) (c == 33) dual in
    subst (λ (n : ℕ). P [] n c) (sym (eqb-true b 33 marks.0)) (subst (λ (n : ℕ). P [] 33 n) (sym (eqb-true c 33 marks.1)) p)
both_marks P p (o ∷ around) b c dual = absurd cc

-- a text that is cut behind a `!!`, and one that is cut in it
pub behind_dual : Ending (λ kind. kind ≡ Dual) whole (λ t. t.from + 2)
behind_dual = record {
  no_byte = byte_no_dual;
  one = λ around at b bytes kind means is. absurd (no_dual_one around b kind means is);
  two = λ around at b c bytes dual is. both_marks (λ os x y. ReadTo os at (x ∷ y ∷ bytes) (token Dual at (at + 2) ∷ []) (at + 2)) (record {
    count = 2;
    place = refl;
    read = dual_read [] at 33 33 [] refl refl ∙ ap (after_front (token Dual at (at + 2) ∷ [])) (at_end [] (at + 2));
  }) around b c dual;
}

pub in_dual : Ending (λ kind. kind ≡ Dual) half (λ t. t.from + 1)
in_dual = record {
  no_byte = byte_no_dual;
  one = λ around at b bytes kind means is. absurd (no_dual_one around b kind means is);
  two = λ around at b c bytes dual is. both_marks (λ os x y. ReadTo os at (x ∷ y ∷ bytes) (token (Byte 33) at (at + 1) ∷ []) (at + 1)) (record {
    count = 1;
    place = refl;
    read = last_read [] at 33 refl ∙ ap (after_front (token (Byte 33) at (at + 1) ∷ [])) (at_end [] (at + 1));
  }) around b c dual;
}
