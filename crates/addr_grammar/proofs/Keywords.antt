-- What is read is an address that a text can spell.
use Rattle.std.proofs.Common.{◌≡◌, ℕ, Bool, true, false, cond, List, [], ◌∷◌, Result, Ok, Err, refl, subst}
use Rattle.addr_words.specs.declared.token_list.Token.{Token}
use Rattle.addr_grammar.specs.declared.cutting.Mark.TheVariants.{Colon, Equals}
use Rattle.addr_grammar.specs.declared.faults.GrammarFault.{GrammarFault}
use Rattle.addr_grammar.specs.declared.faults.GrammarFault.TheVariants.{Empty, EmptyOption}
use Rattle.addr_grammar.specs.Addresses.{Named, is_empty, is_dash, has_slash, FitsKeyword, HaveNames}
use Rattle.addr_grammar.specs.Grammar.{◌>>=◌, before, after, later, decoded, texts, Piece, Header, gopen, stdio, header, head_of, value_of, option_of, options_of}

pub bind_ok : {A B E : Type 0} (r : Result A E) (f : A → Result B E) (y : B) → (r >>= f) ≡ Ok y → (x : A) × (r ≡ Ok x) × (f x ≡ Ok y)
bind_ok (Ok x) f y e = (x, refl, e)
bind_ok (Err fault) f y e = absurd cc

abbrev fine : {A : Type 0} → A → Result A GrammarFault
fine x = Ok x

pub ok_is : {A : Type 0} (x y : A) → fine x ≡ fine y → x ≡ y
ok_is x y e = cc

header_fits : (first : List ℕ) (others : List (List ℕ)) (whole : List ℕ) (h : Header) → header first others whole ≡ Ok h → FitsKeyword h.keyword
header_fits first others whole h e = one (has_slash first) (is_dash first) (is_empty first) refl refl refl e
  where
    one : (s d m : Bool) → has_slash first ≡ s → is_dash first ≡ d → is_empty first ≡ m
        → cond s (Ok (record { keyword = gopen; params = whole ∷ [] })) (cond d (Ok (record { keyword = stdio; params = others })) (cond m (Err Empty) (Ok (record { keyword = first; params = others })))) ≡ fine h
        → FitsKeyword h.keyword
    one true d m hs hd hm k =
        let made : Header = record { keyword = gopen; params = whole ∷ [] } in
        subst (λ (x : Header). FitsKeyword x.keyword) (ok_is made h k) (record { no_slash = refl; no_dash = refl; not_empty = refl })
    one false true m hs hd hm k =
        let made : Header = record { keyword = stdio; params = others } in
        subst (λ (x : Header). FitsKeyword x.keyword) (ok_is made h k) (record { no_slash = refl; no_dash = refl; not_empty = refl })
    one false false true hs hd hm k = absurd cc
    one false false false hs hd hm k =
        let made : Header = record { keyword = first; params = others } in
        subst (λ (x : Header). FitsKeyword x.keyword) (ok_is made h k) (record { no_slash = hs; no_dash = hd; not_empty = hm })

pub head_fits : (tokens : List Token) (h : Header) → head_of tokens ≡ Ok h → FitsKeyword h.keyword
head_fits tokens h e = header_fits (decoded (before Colon tokens)) (texts (later Colon (after Colon tokens))) (decoded tokens) h e

option_named : (p : Piece) (option : Named) → option_of p ≡ Ok option → is_empty option.name ≡ false
option_named p option e = one (is_empty (decoded (before Equals p.tokens))) refl e
  where
    one : (m : Bool) → is_empty (decoded (before Equals p.tokens)) ≡ m
        → cond m (Err (EmptyOption p.at)) (Ok (record { name = decoded (before Equals p.tokens); value = value_of (after Equals p.tokens) })) ≡ fine option
        → is_empty option.name ≡ false
    one true hm k = absurd cc
    one false hm k =
        let made : Named = record { name = decoded (before Equals p.tokens); value = value_of (after Equals p.tokens) } in
        subst (λ (x : Named). is_empty x.name ≡ false) (ok_is made option k) hm

pub options_named : (ps : List Piece) (options : List Named) → options_of ps ≡ Ok options → HaveNames options
options_named [] options e = subst HaveNames (ok_is [] options e) tt
options_named (p ∷ ps) options e =
    let a = bind_ok (option_of p) (λ option. options_of ps >>= λ others. Ok (option ∷ others)) options e in
    let b = bind_ok (options_of ps) (λ others. Ok (a.0 ∷ others)) options a.2 in
    subst HaveNames (ok_is (a.0 ∷ b.0) options b.2) (option_named p a.0 a.1, options_named ps b.0 b.1)
