-- A text's fault as it is read is the one that it has by what it spells.
use Rattle.std.proofs.Common.{◌≡◌, ℕ, ◌+◌, ◌≤◌, true, List, [], ◌∷◌, ◌++◌, length, take, Option, Some, None, Result, Ok, Err, refl, sym, ap, subst, ◌∙◌, inl, inr, ◌⊎◌, nat_lt, arith, append_assoc, append-nil}
use Rattle.std.specs.Prelude.{IfErr}
use Rattle.std.specs.List.{AllByRecursion}
use Rattle.std.proofs.lemmas.Bool.{ltb-false}
use Rattle.addr_words.specs.declared.token_list.Token.{Token}
use Rattle.addr_words.specs.declared.token_list.TokenKind.{TokenKind}
use Rattle.addr_words.specs.declared.token_list.TokenKind.TheVariants as kinds
use Rattle.addr_words.specs.declared.faults.WordFault.{WordFault}
use Rattle.addr_words.specs.declared.faults.WordFault.TheVariants as words
use Rattle.addr_words.specs.Reading.{tokens_from, tokens_of}
use Rattle.addr_words.specs.Spelling.{SpellsKinds}
use Rattle.addr_words.proofs.Stands.{kinds_of, rest_stands}
use Rattle.addr_words.proofs.FirstFaults.{told_fault}
use Rattle.addr_grammar.specs.declared.cutting.Mark.{Mark}
use Rattle.addr_grammar.specs.declared.cutting.Mark.TheVariants.{Colon, Comma, Dual, Equals}
use Rattle.addr_grammar.specs.declared.faults.GrammarFault.{GrammarFault}
use Rattle.addr_grammar.specs.declared.faults.GrammarFault.TheVariants.{Unclosed, LoneBackslash, TooLong, Empty, TooManyDuals, EmptyOption, Memory}
use Rattle.addr_grammar.specs.declared.addresses.RawAddress.{RawAddress}
use Rattle.addr_grammar.specs.Addresses.{is_empty}
use Rattle.addr_grammar.specs.Grammar.{is_mark, before, after, decoded, Piece, later, begins_of, second_half, halves, address_of, widen, reading, Reports, Reads}
use Rattle.addr_grammar.specs.Spelling.{PartAt}
use Rattle.addr_grammar.specs.FirstFaults.{IsSecondDual, IsOptionPlace, HasFewDuals, IsSideOf, NamesNothing, NamesNoOption, OptionsBeginBehindCommas, IsFaultOf}
use Rattle.addr_grammar.proofs.Spelled.{kinds_after, mark_is, cut_parts, free_of_dual, limit_ok}
use Rattle.addr_grammar.proofs.Places.{ReadTo, Ending, whole, half, rest_ends, at_comma, behind_dual, in_dual}
use Rattle.addr_grammar.proofs.Faulty.{Faults, Nameless, Keyless, OptionsAt, begins_bare, err_faults, then_faults, one_faults, two_faults, parted_after, options_places}

kinds_joined : (ts us : List Token) → kinds_of (ts ++ us) ≡ kinds_of ts ++ kinds_of us
kinds_joined [] us = refl
kinds_joined (t ∷ ts) us = ap (λ (ks : List TokenKind). t.kind ∷ ks) (kinds_joined ts us)

-- what a front of the text spells that is read so
front_spells : (text : List ℕ) (front : List Token) (to : ℕ) → ReadTo [] 0 text front to → SpellsKinds [] (take to text) (kinds_of front)
front_spells text front to r =
    let here : r.count ≡ to = omega (arith, r.place) in
    subst (λ (n : ℕ). SpellsKinds [] (take n text) (kinds_of front)) here (rest_stands [] 0 (take r.count text) tt front r.read)

cut_spells : (Q : TokenKind → Type 0) (last : Token → List Token) (to : Token → ℕ) → Ending Q last to → (text : List ℕ) (tokens : List Token) → tokens_from [] 0 text ≡ Ok tokens
    → (front : List Token) (t : Token) (back : List Token) → tokens ≡ front ++ t ∷ back → Q t.kind → SpellsKinds [] (take (to t) text) (kinds_of front ++ kinds_of (last t))
cut_spells Q last to ending text tokens read front t back is q =
    subst (SpellsKinds [] (take (to t) text)) (kinds_joined front (last t))
    (front_spells text (front ++ last t) (to t) (rest_ends Q last to ending [] 0 text tokens read front t back is q))

-- just behind a comma an option's text begins
place_is : (text : List ℕ) (tokens : List Token) → tokens_from [] 0 text ≡ Ok tokens → (front : List Token) (t : Token) (back : List Token) → tokens ≡ front ++ t ∷ back → is_mark Comma t.kind ≡ true → IsOptionPlace text t.to
place_is text tokens read front t back is marks =
    let comma : t.kind ≡ kinds.Comma = mark_is Comma t.kind marks in (
      kinds_of front,
      subst (λ (kind : TokenKind). SpellsKinds [] (take t.to text) (kinds_of front ++ kind ∷ [])) comma (cut_spells _ whole (λ u. u.to) at_comma text tokens read front t back is comma),
    )

abbrev PartsAt : List Token → Option (Token × List Token) → Type 0
PartsAt tokens back = PartAt kinds.Dual (kinds_of tokens) (kinds_of (before Dual tokens)) (kinds_after back)

all_begin : (Q : ℕ → Type 0) (ps : List Piece) → AllByRecursion (λ p. Q p.at) ps → AllByRecursion Q (begins_of ps)
all_begin Q [] all = tt
all_begin Q (p ∷ ps) all = (all.0, all_begin Q ps all.1)

pub options_begin : OptionsBeginBehindCommas
options_begin text tokens front side back e is =
    let read = limit_ok (nat_lt 65536 (length text)) (tokens_from [] 0 text) tokens e in
    all_begin (IsOptionPlace text) (later Comma (after Comma side)) (options_places (λ at ts. IsOptionPlace text at) side (λ before t behind same marks.
    place_is text tokens read.1 (front ++ before) t (behind ++ back)
    (is ∙ ap (λ (ts : List Token). front ++ (ts ++ back)) same ∙ ap (λ (ts : List Token). front ++ ts) (append_assoc before (t ∷ behind) back) ∙ sym (append_assoc front before (t ∷ (behind ++ back)))) marks))

-- the two `!!` of tokens that have one behind another
second_is : (text : List ℕ) (tokens : List Token) → tokens_from [] 0 text ≡ Ok tokens → (right : List Token) (t u : Token) (more : List Token) → after Dual tokens ≡ Some (t, right) → after Dual right ≡ Some (u, more) → IsSecondDual text u.from
second_is text tokens read right t u more first second =
    let p = parted_after Dual tokens t right first in
    let q = parted_after Dual right u more second in
    let front : List Token = before Dual tokens ++ t ∷ before Dual right in
    let is : tokens ≡ front ++ u ∷ more = p.0 ∙ ap (λ (ts : List Token). before Dual tokens ++ t ∷ ts) q.0 ∙ sym (append_assoc (before Dual tokens) (t ∷ before Dual right) (u ∷ more)) in
    let dual : u.kind ≡ kinds.Dual = mark_is Dual u.kind q.1 in
    let in_front : (last : List TokenKind) → kinds_of front ++ last ≡ kinds_of (before Dual tokens) ++ kinds.Dual ∷ (kinds_of (before Dual right) ++ last) = λ last.
    ap (λ (ks : List TokenKind). ks ++ last) (kinds_joined (before Dual tokens) (t ∷ before Dual right)) ∙ append_assoc (kinds_of (before Dual tokens)) (t.kind ∷ kinds_of (before Dual right)) last
    ∙ ap (λ (kind : TokenKind). kinds_of (before Dual tokens) ++ kind ∷ (kinds_of (before Dual right) ++ last)) (mark_is Dual t.kind p.1) in
    record {
      left = kinds_of (before Dual tokens);
      middle = kinds_of (before Dual right);
      left_free = (subst (PartsAt tokens) first (cut_parts Dual tokens)).0;
      middle_free = (subst (PartsAt right) second (cut_parts Dual right)).0;
      one = subst (SpellsKinds [] (take (u.from + 1) text)) (in_front (kinds.Byte 33 ∷ [])) (cut_spells _ half (λ v. v.from + 1) in_dual text tokens read front u more is dual);
      both = subst (SpellsKinds [] (take (u.from + 2) text)) (ap (λ (kind : TokenKind). kinds_of front ++ kind ∷ []) dual ∙ in_front (kinds.Dual ∷ [])) (cut_spells _ whole (λ v. v.from + 2) behind_dual text tokens read front u more is dual);
    }

abbrev HaveFewDuals : List Token → Type 0
HaveFewDuals tokens = HasFewDuals (kinds_of tokens)

-- the tokens behind a side: none, or the `!!`
abbrev Closing : List Token → Type 0
Closing tail = (tail ≡ []) ⊎ ((u : Token) × (right : List Token) × (tail ≡ u ∷ right) × (is_mark Dual u.kind ≡ true))

-- a kind in front of others
first_kind : (kind : TokenKind) (mark : Mark) (t : Token) (more : List Token) → (is_mark mark t.kind ≡ true → t.kind ≡ kind) → is_mark mark t.kind ≡ true → kinds_of (t ∷ more) ≡ kind ∷ kinds_of more
first_kind kind mark t more is marks = ap (λ (k : TokenKind). k ∷ kinds_of more) (is marks)

-- an address without a keyword
keyless : (tokens : List Token) → is_empty (decoded (before Colon (before Comma tokens))) ≡ true → NamesNothing (kinds_of tokens)
keyless tokens empty = go (begins_bare Colon tokens empty)
  where
    go : (tokens ≡ []) ⊎ ((t : Token) × (more : List Token) × (tokens ≡ t ∷ more) × ((is_mark Comma t.kind ≡ true) ⊎ (is_mark Colon t.kind ≡ true))) → NamesNothing (kinds_of tokens)
    go (inl none) = inl (ap kinds_of none)
    go (inr (t, more, is, inl comma)) = inr (kinds_of more, inl (ap kinds_of is ∙ first_kind kinds.Comma Comma t more (mark_is Comma t.kind) comma))
    go (inr (t, more, is, inr colon)) = inr (kinds_of more, inr (ap kinds_of is ∙ first_kind kinds.Colon Colon t more (mark_is Colon t.kind) colon))

-- an option without a name
optionless : (back tail : List Token) → Closing tail → is_empty (decoded (before Equals (before Comma back))) ≡ true → NamesNoOption (kinds_of (back ++ tail))
optionless back tail closing empty = go (begins_bare Equals back empty)
  where
    over : Closing tail → NamesNoOption (kinds_of tail)
    over (inl none) = inl (ap kinds_of none)
    over (inr (u, right, is, dual)) = inr (kinds_of right, inr (inr (ap kinds_of is ∙ first_kind kinds.Dual Dual u right (mark_is Dual u.kind) dual)))

    go : (back ≡ []) ⊎ ((t : Token) × (more : List Token) × (back ≡ t ∷ more) × ((is_mark Comma t.kind ≡ true) ⊎ (is_mark Equals t.kind ≡ true))) → NamesNoOption (kinds_of (back ++ tail))
    go (inl none) = subst (λ (ts : List Token). NamesNoOption (kinds_of (ts ++ tail))) (sym none) (over closing)
    go (inr (t, more, is, inl comma)) = inr (kinds_of (more ++ tail), inl (ap (λ (ts : List Token). kinds_of (ts ++ tail)) is ∙ first_kind kinds.Comma Comma t (more ++ tail) (mark_is Comma t.kind) comma))
    go (inr (t, more, is, inr equals)) = inr (kinds_of (more ++ tail), inr (inl (ap (λ (ts : List Token). kinds_of (ts ++ tail)) is ∙ first_kind kinds.Equals Equals t (more ++ tail) (mark_is Equals t.kind) equals)))

-- the options of a side of the tokens, which stand in front of the tail
side_places : (text : List ℕ) (side tail : List Token) → length text ≤ 65536 → (tokens : List Token) → tokens_from [] 0 text ≡ Ok tokens → HaveFewDuals tokens → Closing tail
    → ((front : List Token) (t : Token) (back : List Token) → side ≡ front ++ t ∷ back → (more : List Token) × (tokens ≡ more ++ t ∷ (back ++ tail))) → OptionsAt (IsFaultOf text) side
side_places text side tail short tokens read few closing within =
    options_places (Nameless (IsFaultOf text)) side (λ front t back is marks nameless.
    let w = within front t back is in
    let comma : t.kind ≡ kinds.Comma = mark_is Comma t.kind marks in
    let all : kinds_of tokens ≡ kinds_of w.0 ++ kinds.Comma ∷ kinds_of (back ++ tail) =
    ap kinds_of w.1 ∙ kinds_joined w.0 (t ∷ (back ++ tail)) ∙ ap (λ (k : TokenKind). kinds_of w.0 ++ k ∷ kinds_of (back ++ tail)) comma in
    let place = cut_spells _ whole (λ u. u.to) at_comma text tokens read w.0 t (back ++ tail) w.1 comma in (
      short,
      record {
        front = kinds_of w.0;
        behind = kinds_of (back ++ tail);
        begins = subst (λ (kind : TokenKind). SpellsKinds [] (take t.to text) (kinds_of w.0 ++ kind ∷ [])) comma place;
        stands = subst (SpellsKinds [] text) all (rest_stands [] 0 text tt tokens read);
        few = subst HasFewDuals all few;
        nameless = optionless back tail closing nameless;
      },
    ))

-- a side without a keyword
side_keyless : (text : List ℕ) (side : List Token) → length text ≤ 65536 → (tokens : List Token) → tokens_from [] 0 text ≡ Ok tokens → IsSideOf (kinds_of tokens) (kinds_of side) → Keyless (IsFaultOf text) side
side_keyless text side short tokens read is empty =
    (short, record { kinds = kinds_of tokens; side = kinds_of side; stands = rest_stands [] 0 text tt tokens read; is_side = is; nameless = keyless side empty })

halves_fault : (text : List ℕ) → length text ≤ 65536 → (tokens : List Token) → tokens_from [] 0 text ≡ Ok tokens → (back : Option (Token × List Token)) → after Dual tokens ≡ back → Faults (IsFaultOf text) (halves tokens back)
halves_fault text short tokens read None is =
    let free = free_of_dual tokens is in
    one_faults (IsFaultOf text) tokens (side_keyless text tokens short tokens read (inl (free, refl)))
    (side_places text tokens [] short tokens read (inl free) (inl refl)
    (λ front t back same. (front, same ∙ ap (λ (ts : List Token). front ++ t ∷ ts) (sym (append-nil back)))))
halves_fault text short tokens read (Some (t, right)) is = second (after Dual right) refl
  where
    second : (back : Option (Token × List Token)) → after Dual right ≡ back → Faults (IsFaultOf text) (second_half (before Dual tokens) right back)
    second (Some (u, more)) next = err_faults (IsFaultOf text) (TooManyDuals u.from) (short, (kinds_of tokens, rest_stands [] 0 text tt tokens read), second_is text tokens read right t u more is next)
    second None next =
        let p = parted_after Dual tokens t right is in
        let parts = subst (PartsAt tokens) is (cut_parts Dual tokens) in
        let free = free_of_dual right next in
        let few : HaveFewDuals tokens = inr (kinds_of (before Dual tokens), kinds_of right, parts, free) in
        two_faults (IsFaultOf text) (before Dual tokens) right
        (side_keyless text (before Dual tokens) short tokens read (inr (kinds_of (before Dual tokens), kinds_of right, parts, free, inl refl)))
        (side_keyless text right short tokens read (inr (kinds_of (before Dual tokens), kinds_of right, parts, free, inr refl)))
        (side_places text (before Dual tokens) (t ∷ right) short tokens read few (inr (t, right, refl, p.1)) (λ front u back same.
        (front, p.0 ∙ ap (λ (ts : List Token). ts ++ t ∷ right) same ∙ append_assoc front (u ∷ back) (t ∷ right))))
        (side_places text right [] short tokens read few (inl refl) (λ front u back same.
        (before Dual tokens ++ t ∷ front, p.0 ∙ ap (λ (ts : List Token). before Dual tokens ++ t ∷ ts) (same ∙ ap (λ (ts : List Token). front ++ u ∷ ts) (sym (append-nil back))) ∙ sym (append_assoc (before Dual tokens) (t ∷ front) (u ∷ (back ++ []))))))

widen_fault : (text : List ℕ) (r : Result (List Token) WordFault) → tokens_of text ≡ r → Faults (IsFaultOf text) (widen r)
widen_fault text (Ok tokens) is fault e = absurd cc
widen_fault text (Err (words.Unclosed at)) is fault e = err_faults (IsFaultOf text) (Unclosed at) (told_fault text (words.Unclosed at) is) fault e
widen_fault text (Err (words.LoneBackslash at)) is fault e = err_faults (IsFaultOf text) (LoneBackslash at) (told_fault text (words.LoneBackslash at) is) fault e
widen_fault text (Err words.TooLong) is fault e = err_faults (IsFaultOf text) TooLong (told_fault text words.TooLong is) fault e
widen_fault text (Err words.Memory) is fault e = err_faults (IsFaultOf text) Memory tt fault e

widen_ok : (r : Result (List Token) WordFault) (tokens : List Token) → widen r ≡ Ok tokens → r ≡ Ok tokens
widen_ok (Ok ts) tokens e = cc
widen_ok (Err f) tokens e = absurd cc

reading_fault : (text : List ℕ) → Faults (IsFaultOf text) (reading text)
reading_fault text =
    then_faults (IsFaultOf text) (widen (tokens_of text)) address_of (widen_fault text (tokens_of text) refl) (λ tokens e.
    let read = limit_ok (nat_lt 65536 (length text)) (tokens_from [] 0 text) tokens (widen_ok (tokens_of text) tokens e) in
    halves_fault text (ltb-false 65536 (length text) read.0) tokens read.1 (after Dual tokens) refl)

fault_stands : (text : List ℕ) (fault : GrammarFault) → Reports fault (reading text) → IsFaultOf text fault
fault_stands text Memory e = tt
fault_stands text (Unclosed at) e = reading_fault text (Unclosed at) e
fault_stands text (LoneBackslash at) e = reading_fault text (LoneBackslash at) e
fault_stands text TooLong e = reading_fault text TooLong e
fault_stands text Empty e = reading_fault text Empty e
fault_stands text (TooManyDuals at) e = reading_fault text (TooManyDuals at) e
fault_stands text (EmptyOption at) e = reading_fault text (EmptyOption at) e

-- the fault of a text that was read
pub read_fault : (text : List ℕ) (r : Result RawAddress GrammarFault) → Reads (λ address. address) r (reading text) → IfErr r (IsFaultOf text)
read_fault text (Ok address) e = tt
read_fault text (Err fault) e = fault_stands text fault e
