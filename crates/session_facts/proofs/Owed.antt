-- What a further piece adds to what is due, and to whether the escape byte was met.
use Rattle.std.proofs.Common.{◌≡◌, refl, sym, ap, subst, ◌∙◌, ℕ, zero, suc, ◌+◌, ◌-◌, ◌*◌, Bool, true, false, not, cond, ◌&&◌, ◌||◌, ◌==◌, List, [], ◌∷◌, ◌++◌, length, take, map, filter, flat_map, Option, Some, None, arith, one-add, append-nil}
use Rattle.std.specs.List.{before_first, prefix_len, list_any}
use Rattle.std.proofs.lemmas.Bool.{eq-eqb, eqb-true, ne_eqb, false_from_ne_true, false≢true}
use Rattle.std.proofs.lemmas.List.{map-append}
use Rattle.std.proofs.lemmas.List.Elements.{filter-append}
use Rattle.std.proofs.lemmas.List.Folds.{list_any-append}
use Rattle.std.proofs.lemmas.Grind.{common_steps, flat_map-append}
use Rattle.relay_model.specs.declared.places.Part.{Part}
use Rattle.relay_model.specs.declared.places.Part.TheVariants.{Both, Reading, Writing}
use Rattle.relay_model.specs.declared.places.Way.{Way}
use Rattle.relay_model.specs.declared.places.Way.TheVariants.{LeftToRight, RightToLeft}
use Rattle.relay_model.specs.declared.places.Place.{Place}
use Rattle.relay_model.specs.declared.commands.Config.{Config}
use Rattle.relay_model.specs.declared.commands.Conv.{Conv}
use Rattle.relay_model.specs.declared.commands.Conv.TheVariants.{Plain, Cr, Crnl}
use Rattle.relay_model.specs.declared.acts.Act.{Act}
use Rattle.relay_model.specs.Places.{same_place, same_part}
use Rattle.relay_model.specs.Choices.{joined}
use Rattle.relay_model.specs.Configs.{input, output, options_of, way_from}
use Rattle.relay_model.specs.Conversions.{read_converted, write_converted, first_bytes, before_escape, effective, due_of, holds_escape, is_met}
use Rattle.relay_model.specs.History.{got}
use Rattle.relay_model.specs.Transfers.{due}
use Rattle.relay_laws.proofs.PlaceLemmas.{same_place_equal}
use Rattle.history_facts.proofs.Asked.{no_input}
use Rattle.session_facts.specs.Owings.{due_number, left_of, met_at}

-- ---- bytes that count

take_split : (n : ℕ) (xs ys : List ℕ) → take n (xs ++ ys) ≡ take n xs ++ take (n - length xs) ys
take_split zero [] ys = refl
take_split zero (x ∷ xs) ys = let e : 0 ≡ 0 - length (x ∷ xs) = omega arith in ap (λ n. take n ys) e
take_split (suc n) [] ys = let e : suc n ≡ suc n - 0 = omega arith in ap (λ n. take n ys) e
take_split (suc n) (x ∷ xs) ys =
    let e : n - length xs ≡ suc n - length (x ∷ xs) = omega arith in
    ap (λ l. x ∷ l) (take_split n xs ys ∙ ap (λ k. take n xs ++ take k ys) e)

first_split : (o : Option ℕ) (xs ys : List ℕ) → first_bytes o (xs ++ ys) ≡ first_bytes o xs ++ first_bytes (left_of o (length xs)) ys
first_split None xs ys = refl
first_split (Some n) xs ys = take_split n xs ys

take_one : (k x : ℕ) (xs : List ℕ) → take (1 + k) (x ∷ xs) ≡ x ∷ take k xs
take_one k x xs = ap (λ n. take n (x ∷ xs)) (one-add k)

joined_cons : (b : Bool) (x : ℕ) (xs ys : List ℕ) → joined b (x ∷ xs) ys ≡ x ∷ joined b xs ys
joined_cons true x xs ys = refl
joined_cons false x xs ys = refl

before_split : (p : ℕ → Bool) (xs ys : List ℕ) → before_first p (xs ++ ys) ≡ joined (not (list_any p xs)) (before_first p xs) (before_first p ys)
before_split p [] ys = refl
before_split p (x ∷ xs) ys = go (p x) (before_split p xs ys)
  where
    go : (b : Bool) → before_first p (xs ++ ys) ≡ joined (not (list_any p xs)) (before_first p xs) (before_first p ys) → take (cond (not b) (1 + prefix_len (λ x. not (p x)) (xs ++ ys)) 0) (x ∷ (xs ++ ys)) ≡ joined (not (b || list_any p xs)) (take (cond (not b) (1 + prefix_len (λ x. not (p x)) xs) 0) (x ∷ xs)) (before_first p ys)
    go true h = refl
    go false h =
        take_one (prefix_len (λ x. not (p x)) (xs ++ ys)) x (xs ++ ys)
        ∙ ap (λ l. x ∷ l) h
        ∙ sym (joined_cons (not (list_any p xs)) x (before_first p xs) (before_first p ys))
        ∙ ap (λ l. joined (not (list_any p xs)) l (before_first p ys)) (sym (take_one (prefix_len (λ x. not (p x)) xs) x xs))

escape_split : (o : Option ℕ) (xs ys : List ℕ) → before_escape o (xs ++ ys) ≡ joined (not (holds_escape o xs)) (before_escape o xs) (before_escape o ys)
escape_split None xs ys = refl
escape_split (Some e) xs ys = before_split (λ b. b == e) xs ys

effective_split : (r e : Option ℕ) (xs ys : List ℕ) → effective r e (xs ++ ys) ≡ joined (not (is_met r e xs)) (effective r e xs) (effective (left_of r (length xs)) e ys)
effective_split r e xs ys = ap (before_escape e) (first_split r xs ys) ∙ escape_split e (first_bytes r xs) (first_bytes (left_of r (length xs)) ys)

holds_split : (o : Option ℕ) (xs ys : List ℕ) → holds_escape o (xs ++ ys) ≡ (holds_escape o xs || holds_escape o ys)
holds_split None xs ys = refl
holds_split (Some e) xs ys = list_any-append (λ b. b == e) xs ys

pub met_split : (r e : Option ℕ) (xs ys : List ℕ) → is_met r e (xs ++ ys) ≡ (is_met r e xs || is_met (left_of r (length xs)) e ys)
met_split r e xs ys = ap (holds_escape e) (first_split r xs ys) ∙ holds_split e (first_bytes r xs) (first_bytes (left_of r (length xs)) ys)

-- ---- conversions

read_split : (v : Conv) (xs ys : List ℕ) → read_converted v (xs ++ ys) ≡ read_converted v xs ++ read_converted v ys
read_split Plain xs ys = refl
read_split Cr xs ys = map-append _ xs ys
read_split Crnl xs ys = filter-append _ xs ys

write_split : (v : Conv) (xs ys : List ℕ) → write_converted v (xs ++ ys) ≡ write_converted v xs ++ write_converted v ys
write_split Plain xs ys = refl
write_split Cr xs ys = map-append _ xs ys
write_split Crnl xs ys = flat_map-append _ xs ys

converted_joined : (v w : Conv) (b : Bool) (xs ys : List ℕ) → write_converted w (read_converted v (joined b xs ys)) ≡ joined b (write_converted w (read_converted v xs)) (write_converted w (read_converted v ys))
converted_joined v w true xs ys = ap (write_converted w) (read_split v xs ys) ∙ write_split w (read_converted v xs) (read_converted v ys)
converted_joined v w false xs ys = refl

due_split : (v w : Conv) (r e : Option ℕ) (xs ys : List ℕ) → due_of v w r e (xs ++ ys) ≡ joined (not (is_met r e xs)) (due_of v w r e xs) (due_of v w (left_of r (length xs)) e ys)
due_split v w r e xs ys =
    ap (λ l. write_converted w (read_converted v l)) (effective_split r e xs ys)
    ∙ converted_joined v w (not (is_met r e xs)) (effective r e xs) (effective (left_of r (length xs)) e ys)

-- ---- numbers of directions

twice : (s t : ℕ) → (s * 2 == t * 2) ≡ (s == t)
twice s t = grind (arith, common_steps)

twice_and_one : (s t : ℕ) → (s * 2 + 1 == t * 2 + 1) ≡ (s == t)
twice_and_one s t = grind (arith, common_steps)

odd_even : (s t : ℕ) → (s * 2 == t * 2 + 1) ≡ false
odd_even s t = grind (arith, common_steps)

even_odd : (s t : ℕ) → (s * 2 + 1 == t * 2) ≡ false
even_odd s t = grind (arith, common_steps)

part_self : (p : Part) → same_part p p ≡ true
part_self Both = refl
part_self Reading = refl
part_self Writing = refl

at_side : (p : Part) (b : Bool) → b ≡ (same_part p p && true && b)
at_side p b = sym (ap (λ t. t && true && b) (part_self p))

numbers_agree : (c : Config) (s t : ℕ) (v w : Way) → (due_number s v == due_number t w) ≡ same_place (input c s v) (input c t w)
numbers_agree c s t LeftToRight LeftToRight = twice s t ∙ at_side (input c s LeftToRight).part (s == t)
numbers_agree c s t LeftToRight RightToLeft = odd_even s t
numbers_agree c s t RightToLeft LeftToRight = even_odd s t
numbers_agree c s t RightToLeft RightToLeft = twice_and_one s t ∙ at_side (input c s RightToLeft).part (s == t)

pub number_follows : (c : Config) (q i : Place) (v : Way) (s : ℕ) (w : Way) → v ≡ way_from q.side → i ≡ input c q.session v → same_place q i ≡ true → (due_number q.session v == due_number s w) ≡ same_place q (input c s w)
number_follows c q i v s w ev ei h =
    numbers_agree c q.session s v w ∙ ap (λ p. same_place p (input c s w)) (sym (same_place_equal q i h ∙ ei))

pub elsewhere : (c : Config) (q i : Place) (v : Way) (s : ℕ) (w : Way) → v ≡ way_from q.side → i ≡ input c q.session v → same_place q i ≡ false → same_place q (input c s w) ≡ false
elsewhere c q i v s w ev ei h = no_input c q s w (sym (ap (same_place q) (ei ∙ ap (input c q.session) ev)) ∙ h)

-- ---- one more read

abbrev pub piece_of : Config → Way → ℕ → List ℕ → List ℕ
piece_of c w count bytes = due_of (options_of c (input c 0 w)).conv (options_of c (output c 0 w)).conv (left_of (options_of c (input c 0 w)).input.readbytes count) (options_of c (input c 0 w)).input.escape bytes

-- where the escape byte was met nothing more is due
pub due_after_met : (c : Config) (past : List Act) (q : Place) (bytes : List ℕ) (s : ℕ) (w : Way) → true ≡ met_at c past q → due c w (got past (input c s w)) ≡ due c w (joined (same_place q (input c s w)) (got past (input c s w)) bytes)
due_after_met c past q bytes s w met = go (same_place q (input c s w)) refl
  where
    go : (b : Bool) → same_place q (input c s w) ≡ b → due c w (got past (input c s w)) ≡ due c w (joined b (got past (input c s w)) bytes)
    go true e =
        let here : met_at c past (input c s w) ≡ true = ap (met_at c past) (sym (same_place_equal q (input c s w) e)) ∙ sym met in
        sym (due_split _ _ _ _ (got past (input c s w)) bytes ∙ ap (λ b. joined (not b) (due c w (got past (input c s w))) (piece_of c w (length (got past (input c s w))) bytes)) here)
    go false e = refl

-- else what is due of the piece follows
pub due_after_piece : (c : Config) (past : List Act) (q : Place) (bytes : List ℕ) (count : ℕ) (s : ℕ) (v w : Way) → v ≡ way_from q.side → count ≡ length (got past q) → false ≡ met_at c past q → cond (same_place q (input c s w)) (due c w (got past (input c s w)) ++ piece_of c v count bytes) (due c w (got past (input c s w))) ≡ due c w (joined (same_place q (input c s w)) (got past (input c s w)) bytes)
due_after_piece c past q bytes count s v w ev ec met = go (same_place q (input c s w)) refl
  where
    way_is : (w : Way) → way_from (input c s w).side ≡ w
    way_is LeftToRight = refl
    way_is RightToLeft = refl

    go : (b : Bool) → same_place q (input c s w) ≡ b → cond b (due c w (got past (input c s w)) ++ piece_of c v count bytes) (due c w (got past (input c s w))) ≡ due c w (joined b (got past (input c s w)) bytes)
    go true e =
        let is = same_place_equal q (input c s w) e in
        let here : met_at c past (input c s w) ≡ false = ap (met_at c past) (sym is) ∙ sym met in
        let same_way : v ≡ w = ev ∙ ap (λ p. way_from p.side) is ∙ way_is w in
        let same_count : count ≡ length (got past (input c s w)) = ec ∙ ap (λ p. length (got past p)) is in
        ap (λ v. due c w (got past (input c s w)) ++ piece_of c v count bytes) same_way
        ∙ ap (λ n. due c w (got past (input c s w)) ++ piece_of c w n bytes) same_count
        ∙ sym (due_split _ _ _ _ (got past (input c s w)) bytes ∙ ap (λ b. joined (not b) (due c w (got past (input c s w))) (piece_of c w (length (got past (input c s w))) bytes)) here)
    go false e = refl

-- whether the escape byte was met, after one more read
pub met_after : (c : Config) (past : List Act) (q p : Place) (bytes : List ℕ) (before after : Bool) (count : ℕ) → before ≡ met_at c past q → count ≡ length (got past q) → after ≡ (before || is_met (left_of (options_of c q).input.readbytes count) (options_of c q).input.escape bytes) → cond (same_place q p) after (met_at c past p) ≡ is_met (options_of c p).input.readbytes (options_of c p).input.escape (joined (same_place q p) (got past p) bytes)
met_after c past q p bytes before after count eb ec ea = go (same_place q p) refl
  where
    go : (b : Bool) → same_place q p ≡ b → cond b after (met_at c past p) ≡ is_met (options_of c p).input.readbytes (options_of c p).input.escape (joined b (got past p) bytes)
    go true e =
        let whole : after ≡ is_met (options_of c q).input.readbytes (options_of c q).input.escape (got past q ++ bytes) =
        ea ∙ ap (λ b. b || is_met (left_of (options_of c q).input.readbytes count) (options_of c q).input.escape bytes) eb
        ∙ ap (λ n. met_at c past q || is_met (left_of (options_of c q).input.readbytes n) (options_of c q).input.escape bytes) ec
        ∙ sym (met_split (options_of c q).input.readbytes (options_of c q).input.escape (got past q) bytes) in
        subst (λ x. after ≡ is_met (options_of c x).input.readbytes (options_of c x).input.escape (got past x ++ bytes)) (same_place_equal q p e) whole
    go false e = refl

pub due_appended : (c : Config) (past : List Act) (q : Place) (bytes : List ℕ) (count : ℕ) (s : ℕ) (v w : Way) (old new more : List ℕ) (b : Bool) → v ≡ way_from q.side → count ≡ length (got past q) → false ≡ met_at c past q → new ≡ cond b (old ++ more) old → b ≡ same_place q (input c s w) → more ≡ piece_of c v count bytes → old ≡ due c w (got past (input c s w)) → new ≡ due c w (joined (same_place q (input c s w)) (got past (input c s w)) bytes)
due_appended c past q bytes count s v w old new more b ev ec met en eb em eo =
    en
    ∙ ap (λ b. cond b (old ++ more) old) eb
    ∙ ap (λ l. cond (same_place q (input c s w)) (old ++ l) old) em
    ∙ ap (λ l. cond (same_place q (input c s w)) (l ++ piece_of c v count bytes) l) eo
    ∙ due_after_piece c past q bytes count s v w ev ec met
