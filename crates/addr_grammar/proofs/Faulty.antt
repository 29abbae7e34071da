-- Which faults the parts of an address have.
use Rattle.std.proofs.Common.{◌≡◌, ℕ, Bool, true, false, cond, List, [], ◌∷◌, ◌++◌, Option, Some, None, Result, Ok, Err, refl, sym, ap, subst, ◌∙◌, append_assoc, inl, inr, ◌⊎◌}
use Rattle.std.proofs.lemmas.Bool.{false≢true}
use Rattle.std.specs.List.{AllByRecursion}
use Rattle.addr_words.specs.declared.token_list.Token.{Token}
use Rattle.addr_grammar.specs.declared.cutting.Mark.{Mark}
use Rattle.addr_grammar.specs.declared.cutting.Mark.TheVariants.{Colon, Comma, Equals}
use Rattle.addr_grammar.specs.declared.faults.GrammarFault.{GrammarFault}
use Rattle.addr_grammar.specs.declared.faults.GrammarFault.TheVariants.{Empty, EmptyOption}
use Rattle.addr_grammar.specs.declared.addresses.RawAddress.TheVariants.{One, Two}
use Rattle.addr_grammar.specs.Addresses.{Named, Parts, is_empty, is_dash, has_slash}
use Rattle.addr_grammar.specs.Grammar.{◌>>=◌, is_mark, before, after, Piece, with_first, pieces, later, decoded, Header, gopen, stdio, header, texts, head_of, value_of, option_of, options_of, single_of, two_of}

-- each fault of an answer is of this sort
abbrev pub Faults : {A : Type 0} → (GrammarFault → Type 0) → Result A GrammarFault → Type 0
Faults P r = (fault : GrammarFault) → r ≡ Err fault → P fault

abbrev failed : {A : Type 0} → GrammarFault → Result A GrammarFault
failed fault = Err fault

fault_is : {A : Type 0} (fault other : GrammarFault) → failed {A = A} fault ≡ failed {A = A} other → fault ≡ other
fault_is fault other e = cc

pub ok_faults : {A : Type 0} (P : GrammarFault → Type 0) (x : A) → Faults P (Ok x)
ok_faults P x fault e = absurd cc

pub err_faults : {A : Type 0} (P : GrammarFault → Type 0) (found : GrammarFault) → P found → Faults {A = A} P (Err found)
err_faults P found p fault e = subst P (fault_is found fault e) p

pub then_faults : {A B : Type 0} (P : GrammarFault → Type 0) (r : Result A GrammarFault) (f : A → Result B GrammarFault) → Faults P r → ((x : A) → r ≡ Ok x → Faults P (f x)) → Faults P (r >>= f)
then_faults P (Ok x) f first next = next x refl
then_faults P (Err found) f first next = err_faults P found (first found refl)

cond_faults : {A : Type 0} (P : GrammarFault → Type 0) (b : Bool) (r s : Result A GrammarFault) → Faults P r → Faults P s → Faults P (cond b r s)
cond_faults P true r s one other = one
cond_faults P false r s one other = other

-- where the first of them fails only where the test holds
known_faults : {A : Type 0} (P : GrammarFault → Type 0) (b : Bool) (r s : Result A GrammarFault) → (b ≡ true → Faults P r) → Faults P s → Faults P (cond b r s)
known_faults P true r s one other = one refl
known_faults P false r s one other = other

header_faults : (P : GrammarFault → Type 0) (first : List ℕ) (others : List (List ℕ)) (whole : List ℕ) → (is_empty first ≡ true → P Empty) → Faults P (header first others whole)
header_faults P first others whole p =
    let file : Header = record { keyword = gopen; params = whole ∷ [] } in
    let streams : Header = record { keyword = stdio; params = others } in
    let named : Header = record { keyword = first; params = others } in
    cond_faults P (has_slash first) (Ok file) (cond (is_dash first) (Ok streams) (cond (is_empty first) (Err Empty) (Ok named))) (ok_faults P file)
    (cond_faults P (is_dash first) (Ok streams) (cond (is_empty first) (Err Empty) (Ok named)) (ok_faults P streams)
    (known_faults P (is_empty first) (Err Empty) (Ok named) (λ empty. err_faults P Empty (p empty)) (ok_faults P named)))

pub head_faults : (P : GrammarFault → Type 0) (tokens : List Token) → (is_empty (decoded (before Colon tokens)) ≡ true → P Empty) → Faults P (head_of tokens)
head_faults P tokens p = header_faults P (decoded (before Colon tokens)) (texts (later Colon (after Colon tokens))) (decoded tokens) p

-- a piece is no option only where it is told
abbrev pub Nameless : (GrammarFault → Type 0) → ℕ → List Token → Type 0
Nameless P at tokens = is_empty (decoded (before Equals tokens)) ≡ true → P (EmptyOption at)

option_faults : (P : GrammarFault → Type 0) (p : Piece) → Nameless P p.at p.tokens → Faults P (option_of p)
option_faults P p nameless =
    let made : Named = record { name = decoded (before Equals p.tokens); value = value_of (after Equals p.tokens) } in
    known_faults P (is_empty (decoded (before Equals p.tokens))) (Err (EmptyOption p.at)) (Ok made) (λ empty. err_faults P (EmptyOption p.at) (nameless empty)) (ok_faults P made)

pub options_faults : (P : GrammarFault → Type 0) (ps : List Piece) → AllByRecursion (λ p. Nameless P p.at p.tokens) ps → Faults P (options_of ps)
options_faults P [] all = ok_faults P []
options_faults P (p ∷ ps) all =
    then_faults P (option_of p) (λ option. options_of ps >>= λ options. Ok (option ∷ options)) (option_faults P p all.0)
    (λ option e. then_faults P (options_of ps) (λ options. Ok (option ∷ options)) (options_faults P ps all.1) (λ options f. ok_faults P (option ∷ options)))

abbrev parts : Header → List Named → Parts
parts head options = record { keyword = head.keyword; params = head.params; options = options }

abbrev pub OptionsAt : (GrammarFault → Type 0) → List Token → Type 0
OptionsAt P tokens = AllByRecursion (λ p. Nameless P p.at p.tokens) (later Comma (after Comma tokens))

-- an address without a keyword is told
abbrev pub Keyless : (GrammarFault → Type 0) → List Token → Type 0
Keyless P tokens = is_empty (decoded (before Colon (before Comma tokens))) ≡ true → P Empty

pub single_faults : (P : GrammarFault → Type 0) (tokens : List Token) → Keyless P tokens → OptionsAt P tokens → Faults P (single_of tokens)
single_faults P tokens p all =
    then_faults P (head_of (before Comma tokens)) (λ head. options_of (later Comma (after Comma tokens)) >>= λ options. Ok (parts head options)) (head_faults P (before Comma tokens) p)
    (λ head e. then_faults P (options_of (later Comma (after Comma tokens))) (λ options. Ok (parts head options)) (options_faults P (later Comma (after Comma tokens)) all) (λ options f. ok_faults P (parts head options)))

pub one_faults : (P : GrammarFault → Type 0) (tokens : List Token) → Keyless P tokens → OptionsAt P tokens → Faults P (single_of tokens >>= λ single. Ok (One single))
one_faults P tokens p all = then_faults P (single_of tokens) (λ single. Ok (One single)) (single_faults P tokens p all) (λ single e. ok_faults P (One single))

pub two_faults : (P : GrammarFault → Type 0) (left right : List Token) → Keyless P left → Keyless P right → OptionsAt P left → OptionsAt P right → Faults P (two_of left right)
two_faults P left right p q all others =
    then_faults P (single_of left) (λ reading. single_of right >>= λ writing. Ok (Two reading writing)) (single_faults P left p all)
    (λ reading e. then_faults P (single_of right) (λ writing. Ok (Two reading writing)) (single_faults P right q others) (λ writing f. ok_faults P (Two reading writing)))

-- the first part between marks begins here and goes on to the first mark; each further one is known
abbrev Parted : Mark → (ℕ → List Token → Type 0) → ℕ → List Token → List Piece → Type 0
Parted mark R at first [] = Unit {0}
Parted mark R at first (p ∷ ps) = (p.at ≡ at) × (p.tokens ≡ first) × AllByRecursion (λ q. R q.at q.tokens) ps

-- what is known of the first part, too
all_parted : (mark : Mark) (R : ℕ → List Token → Type 0) (at : ℕ) (first : List Token) (ps : List Piece) → R at first → Parted mark R at first ps → AllByRecursion (λ p. R p.at p.tokens) ps
all_parted mark R at first [] r parted = tt
all_parted mark R at first (p ∷ ps) r parted = (subst (λ n. R n p.tokens) (sym parted.0) (subst (R at) (sym parted.1) r), parted.2)

-- where the parts begin that stand between marks, and what stands there up to the next mark
pieces_places : (mark : Mark) (R : ℕ → List Token → Type 0) (at : ℕ) (tokens : List Token) → ((front : List Token) (t : Token) (back : List Token) → tokens ≡ front ++ t ∷ back → is_mark mark t.kind ≡ true → R t.to (before mark back))
    → Parted mark R at (before mark tokens) (pieces mark at tokens)
pieces_places mark R at [] places = (refl, refl, tt)
pieces_places mark R at (t ∷ tokens) places =
    let further : (front : List Token) (u : Token) (back : List Token) → tokens ≡ front ++ u ∷ back → is_mark mark u.kind ≡ true → R u.to (before mark back) =
    λ front u back is marks. places (t ∷ front) u back (ap (λ (ts : List Token). t ∷ ts) is) marks in
    one (is_mark mark t.kind) refl (pieces_places mark R t.to tokens further) (pieces_places mark R at tokens further)
  where
    first : (ps : List Piece) → Parted mark R at (before mark tokens) ps → Parted mark R at (t ∷ before mark tokens) (with_first t ps)
    first [] parted = tt
    first (p ∷ ps) parted = (parted.0, ap (λ (ts : List Token). t ∷ ts) parted.1, parted.2)

    one : (b : Bool) → is_mark mark t.kind ≡ b → Parted mark R t.to (before mark tokens) (pieces mark t.to tokens) → Parted mark R at (before mark tokens) (pieces mark at tokens)
        → Parted mark R at (cond b [] (t ∷ before mark tokens)) (cond b (record { at = at; tokens = [] } ∷ pieces mark t.to tokens) (with_first t (pieces mark at tokens)))
    one true marks behind rest = (refl, refl, all_parted mark R t.to (before mark tokens) (pieces mark t.to tokens) (places [] t tokens refl marks) behind)
    one false marks behind rest = first (pieces mark at tokens) rest

some_is : {A : Type 0} (x y : A) → Some x ≡ Some y → x ≡ y
some_is x y e = cc

both_same : (t u : Token) (ts us : List Token) → ◌≡◌ {A = Option (Token × List Token)} (Some (t, ts)) (Some (u, us)) → (t ≡ u) × (ts ≡ us)
both_same t u ts us e =
    let p = some_is {A = Token × List Token} (t, ts) (u, us) e in
    (ap (λ (x : Token × List Token). x.0) p, ap (λ (x : Token × List Token). x.1) p)

-- what stands after the first mark stands behind it
pub parted_after : (mark : Mark) (tokens : List Token) (t : Token) (rest : List Token) → after mark tokens ≡ Some (t, rest) → (tokens ≡ before mark tokens ++ t ∷ rest) × (is_mark mark t.kind ≡ true)
parted_after mark [] t rest e = absurd cc
parted_after mark (u ∷ tokens) t rest e = one (is_mark mark u.kind) refl (parted_after mark tokens t rest) e
  where
    one : (b : Bool) → is_mark mark u.kind ≡ b → (after mark tokens ≡ Some (t, rest) → (tokens ≡ before mark tokens ++ t ∷ rest) × (is_mark mark t.kind ≡ true))
        → cond b (Some (u, tokens)) (after mark tokens) ≡ Some (t, rest) → (u ∷ tokens ≡ cond b [] (u ∷ before mark tokens) ++ t ∷ rest) × (is_mark mark t.kind ≡ true)
    one true marks further f =
        let s = both_same u t tokens rest f in
        (ap (λ (v : Token). v ∷ tokens) s.0 ∙ ap (λ (ts : List Token). t ∷ ts) s.1, subst (λ (v : Token). is_mark mark v.kind ≡ true) s.0 marks)
    one false marks further f = let r = further f in (ap (λ (ts : List Token). u ∷ ts) r.0, r.1)

-- where the options of a single address begin, and what stands there up to the next comma
pub options_places : (R : ℕ → List Token → Type 0) (tokens : List Token) → ((front : List Token) (t : Token) (back : List Token) → tokens ≡ front ++ t ∷ back → is_mark Comma t.kind ≡ true → R t.to (before Comma back))
    → AllByRecursion (λ p. R p.at p.tokens) (later Comma (after Comma tokens))
options_places R tokens places = one (after Comma tokens) refl
  where
    one : (back : Option (Token × List Token)) → after Comma tokens ≡ back → AllByRecursion (λ p. R p.at p.tokens) (later Comma back)
    one None is = tt
    one (Some (t, rest)) is =
        let r = parted_after Comma tokens t rest is in
        all_parted Comma R t.to (before Comma rest) (pieces Comma t.to rest) (places (before Comma tokens) t rest r.0 r.1)
        (pieces_places Comma R t.to rest
        (λ front u back same marks. places ((before Comma tokens ++ t ∷ []) ++ front) u back
        (r.0 ∙ ap (λ (ts : List Token). before Comma tokens ++ t ∷ ts) same ∙ sym (append_assoc (before Comma tokens) (t ∷ []) (front ++ u ∷ back)) ∙ sym (append_assoc (before Comma tokens ++ t ∷ []) front (u ∷ back))) marks))

-- what has no byte before its first comma and its first mark of another sort is over, or begins with one of these
pub begins_bare : (mark : Mark) (tokens : List Token) → is_empty (decoded (before mark (before Comma tokens))) ≡ true
    → (tokens ≡ []) ⊎ ((t : Token) × (more : List Token) × (tokens ≡ t ∷ more) × ((is_mark Comma t.kind ≡ true) ⊎ (is_mark mark t.kind ≡ true)))
begins_bare mark [] empty = inl refl
begins_bare mark (t ∷ more) empty = one (is_mark Comma t.kind) (is_mark mark t.kind) refl refl empty
  where
    one : (b d : Bool) → is_mark Comma t.kind ≡ b → is_mark mark t.kind ≡ d → is_empty (decoded (before mark (cond b [] (t ∷ before Comma more)))) ≡ true
        → (t ∷ more ≡ []) ⊎ ((u : Token) × (others : List Token) × (t ∷ more ≡ u ∷ others) × ((is_mark Comma u.kind ≡ true) ⊎ (is_mark mark u.kind ≡ true)))
    one true d comma marks e = inr (t, more, refl, inl comma)
    one false true comma marks e = inr (t, more, refl, inr marks)
    one false false comma marks e = absurd (false≢true (subst (λ b. is_empty (decoded (cond b [] (t ∷ before mark (before Comma more)))) ≡ true) marks e))
