-- What is still to be written of a list.
use Rattle.std.proofs.Common.{◌≡◌, ℕ, zero, suc, ◌+◌, ◌-◌, ◌≤◌, ◌<◌, List, [], ◌∷◌, ◌++◌, map, reverse, length, take, drop, Some, refl, sym, ap, subst, ◌∙◌, append_assoc, arith}
use Rattle.std.specs.Prelude.{slice_get}
use Rattle.std.specs.List.{AllByRecursion, flat_map, join_with_byte}
use Rattle.std.specs.Str.{byte}
use Rattle.std.proofs.lemmas.List.{append-nil, drop_more, drop_all, reverse-append, flat_map_more, length-reverse, length-drop, take-append-drop}
use Rattle.std.proofs.lemmas.Option.{slice_get_within, get_or_from_slice_get}
use Rattle.relay_model.specs.declared.readiness.ReadyAt.{ReadyAt}
use Rattle.relay_model.specs.declared.acts.Act.{Act}
use Rattle.journal_text.specs.Fields.{entry_text, ready_text}
use Rattle.journal_text.specs.Lines.{line_of, spelt}
use Rattle.journal_text.specs.Ranges.{IsPlace}

-- the element at a place, and those after it
pub drop_at_get : {A : Type 0} (xs : List A) (i : ℕ) (x : A) → slice_get xs i ≡ Some x → drop i xs ≡ x ∷ drop (i + 1) xs
drop_at_get xs i x e =
    drop_more xs i x (slice_get_within xs i x e) ∙ ap (λ y. y ∷ drop (i + 1) xs) (get_or_from_slice_get xs i x x e)

-- each entry names a place
abbrev pub ArePlaces : List ReadyAt → Type 0
ArePlaces entries = AllByRecursion (λ entry. IsPlace entry.place) entries

-- what is said of each element, while those from a place on are still to be looked at

pub each_more : {A : Type 0} (P : A → Type 0) (xs : List A) (i : ℕ) (x : A) → slice_get xs i ≡ Some x → P x → (AllByRecursion P (drop i xs) → AllByRecursion P xs) → AllByRecursion P (drop (i + 1) xs) → AllByRecursion P xs
each_more P xs i x is here so_far others = so_far (subst (AllByRecursion P) (sym (drop_at_get xs i x is)) (here, others))

pub each_done : {A : Type 0} (P : A → Type 0) (xs : List A) (i : ℕ) → length xs ≤ i → (AllByRecursion P (drop i xs) → AllByRecursion P xs) → AllByRecursion P xs
each_done P xs i past so_far = so_far (subst (AllByRecursion P) (sym (drop_all i xs past)) tt)

-- further entries, each behind a comma
abbrev pub later : List ReadyAt → List ℕ
later entries = flat_map (λ e. byte "," ∷ entry_text e) entries

joined : (e : ReadyAt) (es : List ReadyAt) → join_with_byte (byte ",") (map entry_text (e ∷ es)) ≡ entry_text e ++ later es
joined e [] = sym (append-nil (entry_text e))
joined e (f ∷ es) = ap (λ (xs : List ℕ). entry_text e ++ (byte "," ∷ xs)) (joined f es)

pub ready_at_first : (text : List ℕ) (entries : List ReadyAt) (e : ReadyAt) → slice_get entries 0 ≡ Some e → (text ++ entry_text e) ++ later (drop 1 entries) ≡ text ++ ready_text entries
ready_at_first text [] e is = absurd cc
ready_at_first text (f ∷ es) e is =
    let same : f ≡ e = cc in
    append_assoc text (entry_text e) (later es)
    ∙ ap (λ (xs : List ℕ). text ++ xs) (ap (λ x. entry_text x ++ later es) (sym same) ∙ sym (joined f es))

pub ready_at : (text whole : List ℕ) (entries : List ReadyAt) (i : ℕ) (e : ReadyAt) → slice_get entries i ≡ Some e → text ++ later (drop i entries) ≡ whole → ((text ++ byte "," ∷ []) ++ entry_text e) ++ later (drop (i + 1) entries) ≡ whole
ready_at text whole entries i e is so_far =
    append_assoc (text ++ byte "," ∷ []) (entry_text e) (later (drop (i + 1) entries))
    ∙ append_assoc text (byte "," ∷ []) (entry_text e ++ later (drop (i + 1) entries))
    ∙ ap (λ es. text ++ later es) (sym (drop_at_get entries i e is))
    ∙ so_far

pub ready_done : (text whole : List ℕ) (entries : List ReadyAt) (i : ℕ) → length entries ≤ i → text ++ later (drop i entries) ≡ whole → text ≡ whole
ready_done text whole entries i past so_far =
    sym (append-nil text) ∙ ap (λ es. text ++ later es) (sym (drop_all i entries past)) ∙ so_far

-- the lines of acts that stand oldest first
abbrev pub lines_of : List Act → List ℕ
lines_of acts = flat_map line_of acts

pub spelt_in_order : (acts : List Act) → spelt acts ≡ lines_of (reverse acts)
spelt_in_order [] = refl
spelt_in_order (a ∷ past) =
    ap (λ (xs : List ℕ). xs ++ line_of a) (spelt_in_order past)
    ∙ flat_map_more line_of [] (reverse past) a
    ∙ ap lines_of (sym (reverse-append (a ∷ []) past))

pub line_at : (text whole : List ℕ) (acts : List Act) (i : ℕ) (a : Act) → slice_get acts i ≡ Some a → text ++ lines_of (drop i acts) ≡ whole → (text ++ line_of a) ++ lines_of (drop (i + 1) acts) ≡ whole
line_at text whole acts i a is so_far =
    append_assoc text (line_of a) (lines_of (drop (i + 1) acts))
    ∙ ap (λ more. text ++ lines_of more) (sym (drop_at_get acts i a is))
    ∙ so_far

pub lines_done : (text whole : List ℕ) (acts : List Act) (i : ℕ) → length acts ≤ i → text ++ lines_of (drop i acts) ≡ whole → text ≡ whole
lines_done text whole acts i past so_far =
    sym (append-nil text) ∙ ap (λ more. text ++ lines_of more) (sym (drop_all i acts past)) ∙ so_far

-- ---- the oldest acts of a journal, so many

-- an element in front of other elements
get_in_front : {A : Type 0} (xs ys : List A) (i : ℕ) (x : A) → i < length xs → slice_get (xs ++ ys) i ≡ Some x → slice_get xs i ≡ Some x
get_in_front [] ys i x within is = absurd (omega (arith, within))
get_in_front (y ∷ xs) ys zero x within is = is
get_in_front (y ∷ xs) ys (suc i) x within is = get_in_front xs ys i x (omega (arith, within)) is

abbrev pub oldest : ℕ → List Act → List Act
oldest count acts = drop (length acts - count) acts

pub length-oldest : (count : ℕ) (acts : List Act) → count ≤ length acts → length (reverse (oldest count acts)) ≡ count
length-oldest count acts within = omega (arith, within, length-reverse (oldest count acts), length-drop (length acts - count) acts)

-- counted from the oldest, the acts stand where they stand among all
pub act_of_oldest : (count : ℕ) (acts : List Act) (i : ℕ) (a : Act) → count ≤ length acts → i < count → slice_get (reverse acts) i ≡ Some a → slice_get (reverse (oldest count acts)) i ≡ Some a
act_of_oldest count acts i a within before is =
    let newer = take (length acts - count) acts in
    let parted : reverse acts ≡ reverse (oldest count acts) ++ reverse newer =
    ap reverse (sym (take-append-drop (length acts - count) acts)) ∙ reverse-append newer (oldest count acts) in
    let here : i < length (reverse (oldest count acts)) = omega (arith, before, length-oldest count acts within) in
    get_in_front (reverse (oldest count acts)) (reverse newer) i a here (subst (λ xs. slice_get xs i ≡ Some a) parted is)

pub all_oldest : (acts : List Act) → oldest (length acts) acts ≡ acts
all_oldest acts = let none : length acts - length acts ≡ 0 = omega arith in ap (λ k. drop k acts) none
