-- Places and what a turn names: what is read was spelt so, and what is spelt is read.
use Rattle.std.proofs.Common.{◌≡◌, ℕ, ◌+◌, ◌-◌, ◌^◌, ◌<◌, ◌≤◌, Bool, true, false, cond, eqb, ltb, leb, List, [], ◌∷◌, ◌++◌, map, length, get_or, take, drop, Option, Some, None, refl, sym, ap, ◌∙◌, subst, arith, lit<, lit≤, inl, inr, ◌⊎◌}
use Rattle.std.specs.Prelude.{codes}
use Rattle.std.specs.List.{AllByRecursion, slice_split, join_with_byte}
use Rattle.std.specs.Fmt.{decimal}
use Rattle.std.specs.Str.{bytes_eq}
use Rattle.std.proofs.lemmas.Bool.{eqb-true, le-ltb, ltb-false, leb-true, le-leb}
use Rattle.std.proofs.lemmas.List.{take_at, get_or_at, get_or-append-add, get_or-drop, take-append-drop, length-append, length-drop}
use Rattle.std.proofs.lemmas.List.Splits.{length-slice_split, join_with_byte-slice_split}
use Rattle.std.proofs.lemmas.Option.{same_Some}
use Rattle.relay_model.specs.declared.places.Side.{Side}
use Rattle.relay_model.specs.declared.places.Side.TheVariants.{Left, Right}
use Rattle.relay_model.specs.declared.places.Part.{Part}
use Rattle.relay_model.specs.declared.places.Part.TheVariants.{Both, Reading, Writing}
use Rattle.relay_model.specs.declared.places.Half.{Half}
use Rattle.relay_model.specs.declared.places.Half.TheVariants.{ToRead, ToWrite}
use Rattle.relay_model.specs.declared.places.Place.{Place}
use Rattle.relay_model.specs.declared.readiness.ReadyAt.{ReadyAt}
use Rattle.journal_text.specs.Fields.{side_letter, part_letter, door_letter, half_letter, place_text, entry_text, ready_text}
use Rattle.journal_text.specs.Ranges.{IsPlace, IsReady}
use Rattle.journal_text.specs.Reading.{◌>>=◌, only_if, number_in, side_in, part_in, door_in, half_in, place_between, place_in, entry_between, entry_in, entries_in, ready_in}
use Rattle.journal_text.proofs.ByteLemmas.{chosen, bind_some, only_some, same_bytes, other_bytes, cons_is, around_is, is_over, is_over-append, is_over-weaken, is_over-joined, lacks-from_over, AllLack, split_joined, joined_longer}
use Rattle.journal_text.proofs.NumberLemmas.{decimal_over, number_again, number_takes}

-- ---- letters

abbrev nothing : {A : Type 0} → Option A
nothing = None

-- one of two letters
two_letters : {A : Type 0} (l a b : ℕ) (x y z : A) → cond (eqb l a) (Some x) (cond (eqb l b) (Some y) nothing) ≡ Some z → ((l ≡ a) × (x ≡ z)) ⊎ ((l ≡ b) × (y ≡ z))
two_letters l a b x y z e =
    elim (chosen (eqb l a) (Some x) (cond (eqb l b) (Some y) None) (Some z) e) [
      | inl h ↦ inl (eqb-true l a h.0, same_Some x z h.1)
      | inr h ↦ (elim (chosen (eqb l b) (Some y) None (Some z) h.1) [
        | inl k ↦ inr (eqb-true l b k.0, same_Some y z k.1)
        | inr k ↦ absurd (let no : None ≡ Some z = k.1 in cc)
      ])
    ]

pub side_again : (s : Side) → side_in (side_letter s) ≡ Some s
side_again Left = refl
side_again Right = refl

pub side_takes : (l : ℕ) (s : Side) → side_in l ≡ Some s → l ≡ side_letter s
side_takes l s e =
    elim (two_letters l 76 82 Left Right s e) [
      | inl h ↦ h.0 ∙ ap side_letter h.1
      | inr h ↦ h.0 ∙ ap side_letter h.1
    ]

pub door_again : (d : Bool) → door_in (door_letter d) ≡ Some d
door_again true = refl
door_again false = refl

pub door_takes : (l : ℕ) (d : Bool) → door_in l ≡ Some d → l ≡ door_letter d
door_takes l d e =
    elim (two_letters l 100 45 true false d e) [
      | inl h ↦ h.0 ∙ ap door_letter h.1
      | inr h ↦ h.0 ∙ ap door_letter h.1
    ]

pub half_again : (h : Half) → half_in (half_letter h) ≡ Some h
half_again ToRead = refl
half_again ToWrite = refl

pub half_takes : (l : ℕ) (h : Half) → half_in l ≡ Some h → l ≡ half_letter h
half_takes l half e =
    elim (two_letters l 114 119 ToRead ToWrite half e) [
      | inl h ↦ h.0 ∙ ap half_letter h.1
      | inr h ↦ h.0 ∙ ap half_letter h.1
    ]

pub part_again : (p : Part) → part_in (part_letter p) ≡ Some p
part_again Both = refl
part_again Reading = refl
part_again Writing = refl

pub part_takes : (l : ℕ) (p : Part) → part_in l ≡ Some p → l ≡ part_letter p
part_takes l p e =
    elim (chosen (eqb l 66) (Some Both) (cond (eqb l 73) (Some Reading) (cond (eqb l 79) (Some Writing) None)) (Some p) e) [
      | inl h ↦ eqb-true l 66 h.0 ∙ ap part_letter (same_Some Both p h.1)
      | inr h ↦ (elim (two_letters l 73 79 Reading Writing p h.1) [
        | inl k ↦ k.0 ∙ ap part_letter k.1
        | inr k ↦ k.0 ∙ ap part_letter k.1
      ])
    ]

-- ---- places

place_ends : (text ds : List ℕ) (a b c : ℕ) → text ≡ ds ++ a ∷ b ∷ c ∷ [] → place_in text ≡ place_between ds a b c
unfolding place_in
place_ends text ds a b c e =
    let size : length text ≡ length ds + 3 = ap length e ∙ length-append ds (a ∷ b ∷ c ∷ []) in
    let long : ltb (length text) 3 ≡ false = le-ltb _ _ (omega arith) in
    let front : take (length text - 3) text ≡ ds =
    ap (take (length text - 3)) e ∙ take_at ds (a ∷ b ∷ c ∷ []) (length text - 3) (omega arith) in
    let first : get_or text (length text - 3) 0 ≡ a =
    ap (λ (t : List ℕ). get_or t (length text - 3) 0) e ∙ ap (λ (i : ℕ). get_or (ds ++ a ∷ b ∷ c ∷ []) i 0) (omega arith) ∙ get_or-append-add ds (a ∷ b ∷ c ∷ []) 0 0 in
    let second : get_or text (length text - 2) 0 ≡ b =
    ap (λ (t : List ℕ). get_or t (length text - 2) 0) e ∙ ap (λ (i : ℕ). get_or (ds ++ a ∷ b ∷ c ∷ []) i 0) (omega arith) ∙ get_or-append-add ds (a ∷ b ∷ c ∷ []) 1 0 in
    let third : get_or text (length text - 1) 0 ≡ c =
    ap (λ (t : List ℕ). get_or t (length text - 1) 0) e ∙ ap (λ (i : ℕ). get_or (ds ++ a ∷ b ∷ c ∷ []) i 0) (omega arith) ∙ get_or-append-add ds (a ∷ b ∷ c ∷ []) 2 0 in
    rw (long, front, first, second, third) refl

pub place_again : (p : Place) → IsPlace p → place_in (place_text p) ≡ Some p
place_again p fits =
    place_ends (place_text p) (decimal p.session) (side_letter p.side) (part_letter p.part) (door_letter p.door) refl
    ∙ rw (number_again (2 ^ 32 - 1) p.session (lit< tt) (omega (arith, fits)), side_again p.side, part_again p.part, door_again p.door) refl

three_left : (xs : List ℕ) → length xs ≡ 3 → xs ≡ get_or xs 0 0 ∷ get_or xs 1 0 ∷ get_or xs 2 0 ∷ []
three_left [] e = absurd (omega arith)
three_left (a ∷ []) e = absurd (omega arith)
three_left (a ∷ b ∷ []) e = absurd (omega arith)
three_left (a ∷ b ∷ c ∷ []) e = refl
three_left (a ∷ b ∷ c ∷ d ∷ xs) e = absurd (omega arith)

cut_three : (text : List ℕ) → 3 ≤ length text → text ≡ take (length text - 3) text ++ get_or text (length text - 3) 0 ∷ get_or text (length text - 2) 0 ∷ get_or text (length text - 1) 0 ∷ []
cut_three text long =
    let n = length text - 3 in
    let size : length (drop (length text - 3) text) ≡ 3 = omega (arith, length-drop (length text - 3) text) in
    let at : (i : ℕ) → get_or (drop (length text - 3) text) i 0 ≡ get_or text (length text - 3 + i) 0 = λ i. get_or-drop (length text - 3) text i 0 in
    let first : get_or (drop (length text - 3) text) 0 0 ≡ get_or text (length text - 3) 0 = at 0 ∙ ap (λ (i : ℕ). get_or text i 0) (omega arith) in
    let second : get_or (drop (length text - 3) text) 1 0 ≡ get_or text (length text - 2) 0 = at 1 ∙ ap (λ (i : ℕ). get_or text i 0) (omega arith) in
    let third : get_or (drop (length text - 3) text) 2 0 ≡ get_or text (length text - 1) 0 = at 2 ∙ ap (λ (i : ℕ). get_or text i 0) (omega arith) in
    sym (take-append-drop (length text - 3) text)
    ∙ ap (λ (t : List ℕ). take (length text - 3) text ++ t) (three_left (drop (length text - 3) text) size ∙ rw (first, second, third) refl)

three_is : (ds es : List ℕ) (a b c x y z : ℕ) → ds ≡ es → a ≡ x → b ≡ y → c ≡ z → ds ++ a ∷ b ∷ c ∷ [] ≡ es ++ x ∷ y ∷ z ∷ []
three_is ds es a b c x y z e f g h = cc

place_made : (ds : List ℕ) (a b c : ℕ) (p : Place) → place_between ds a b c ≡ Some p → (ds ++ a ∷ b ∷ c ∷ [] ≡ place_text p) × IsPlace p
place_made ds a b c p e =
    let n = bind_some (number_in (2 ^ 32 - 1) ds) (λ session. side_in a >>= λ side. part_in b >>= λ part. door_in c >>= λ door. Some (record { session = session; side = side; part = part; door = door })) p e in
    let s = bind_some (side_in a) (λ side. part_in b >>= λ part. door_in c >>= λ door. Some (record { session = n.0; side = side; part = part; door = door })) p n.2 in
    let t = bind_some (part_in b) (λ part. door_in c >>= λ door. Some (record { session = n.0; side = s.0; part = part; door = door })) p s.2 in
    let d = bind_some (door_in c) (λ door. Some (record { session = n.0; side = s.0; part = t.0; door = door })) p t.2 in
    let made : Place = record { session = n.0; side = s.0; part = t.0; door = d.0 } in
    let number = number_takes (2 ^ 32 - 1) n.0 ds (lit< tt) n.1 in
    let fits : n.0 < 2 ^ 32 = omega (arith, number.1) in
    let text : ds ++ a ∷ b ∷ c ∷ [] ≡ place_text made =
    three_is _ _ _ _ _ _ _ _ number.0 (side_takes a s.0 s.1) (part_takes b t.0 t.1) (door_takes c d.0 d.1) in
    subst (λ (q : Place). (ds ++ a ∷ b ∷ c ∷ [] ≡ place_text q) × IsPlace q) {x = made} (same_Some made p d.2) (text, fits)

pub place_takes : (text : List ℕ) (p : Place) → place_in text ≡ Some p → (text ≡ place_text p) × IsPlace p
unfolding place_in
place_takes text p e =
    elim (chosen (ltb (length text) 3) None (place_between (take (length text - 3) text) (get_or text (length text - 3) 0) (get_or text (length text - 2) 0) (get_or text (length text - 1) 0)) (Some p) e) [
      | inl h ↦ absurd (let no : None ≡ Some p = h.1 in cc)
      | inr h ↦ (let made = place_made (take (length text - 3) text) (get_or text (length text - 3) 0) (get_or text (length text - 2) 0) (get_or text (length text - 1) 0) p h.1 in
          (cut_three text (ltb-false _ _ h.0) ∙ made.0, made.1))
    ]

letters_over : (s : Side) (p : Part) (d : Bool) → is_over 44 (side_letter s ∷ part_letter p ∷ door_letter d ∷ []) ≡ true
letters_over Left Both true = refl
letters_over Left Both false = refl
letters_over Left Reading true = refl
letters_over Left Reading false = refl
letters_over Left Writing true = refl
letters_over Left Writing false = refl
letters_over Right Both true = refl
letters_over Right Both false = refl
letters_over Right Reading true = refl
letters_over Right Reading false = refl
letters_over Right Writing true = refl
letters_over Right Writing false = refl

pub place_over : (p : Place) → IsPlace p → is_over 44 (place_text p) ≡ true
place_over p fits =
    is_over-append 44 (decimal p.session) (side_letter p.side ∷ part_letter p.part ∷ door_letter p.door ∷ [])
    (is_over-weaken 44 47 (decimal p.session) (lit≤ tt) (decimal_over p.session (omega (arith, fits))))
    (letters_over p.side p.part p.door)

-- ---- entries

entry_ends : (text xs : List ℕ) (c : ℕ) → text ≡ xs ++ c ∷ [] → entry_in text ≡ entry_between xs c
unfolding entry_in
entry_ends text xs c e =
    let size : length text ≡ length xs + 1 = ap length e ∙ length-append xs (c ∷ []) in
    let long : ltb (length text) 1 ≡ false = le-ltb _ _ (omega arith) in
    let front : take (length text - 1) text ≡ xs = ap (take (length text - 1)) e ∙ take_at xs (c ∷ []) (length text - 1) (omega arith) in
    let last : get_or text (length text - 1) 0 ≡ c =
    ap (λ (t : List ℕ). get_or t (length text - 1) 0) e ∙ get_or_at xs c [] 0 (length text - 1) (omega arith) in
    rw (long, front, last) refl

pub entry_again : (e : ReadyAt) → IsPlace e.place → entry_in (entry_text e) ≡ Some e
entry_again e fits =
    entry_ends (entry_text e) (place_text e.place) (half_letter e.half) refl
    ∙ rw (place_again e.place fits, half_again e.half) refl

one_left : (xs : List ℕ) → length xs ≡ 1 → xs ≡ get_or xs 0 0 ∷ []
one_left [] e = absurd (omega arith)
one_left (a ∷ []) e = refl
one_left (a ∷ b ∷ xs) e = absurd (omega arith)

cut_one : (text : List ℕ) → 1 ≤ length text → text ≡ take (length text - 1) text ++ get_or text (length text - 1) 0 ∷ []
cut_one text long =
    let size : length (drop (length text - 1) text) ≡ 1 = omega (arith, length-drop (length text - 1) text) in
    let last : get_or (drop (length text - 1) text) 0 0 ≡ get_or text (length text - 1) 0 =
    get_or-drop (length text - 1) text 0 0 ∙ ap (λ (i : ℕ). get_or text i 0) (omega arith) in
    sym (take-append-drop (length text - 1) text)
    ∙ ap (λ (t : List ℕ). take (length text - 1) text ++ t) (one_left (drop (length text - 1) text) size ∙ rw last refl)

entry_made : (xs : List ℕ) (c : ℕ) (entry : ReadyAt) → entry_between xs c ≡ Some entry → (xs ++ c ∷ [] ≡ entry_text entry) × IsPlace entry.place
entry_made xs c entry e =
    let p = bind_some (place_in xs) (λ place. half_in c >>= λ half. Some (record { place = place; half = half })) entry e in
    let h = bind_some (half_in c) (λ half. Some (record { place = p.0; half = half })) entry p.2 in
    let made : ReadyAt = record { place = p.0; half = h.0 } in
    let place = place_takes xs p.0 p.1 in
    let text : xs ++ c ∷ [] ≡ entry_text made = around_is c _ _ _ _ place.0 refl ∙ ap (λ (l : ℕ). place_text p.0 ++ l ∷ []) (half_takes c h.0 h.1) in
    subst (λ (x : ReadyAt). (xs ++ c ∷ [] ≡ entry_text x) × IsPlace x.place) {x = made} (same_Some made entry h.2) (text, place.1)

pub entry_takes : (text : List ℕ) (entry : ReadyAt) → entry_in text ≡ Some entry → (text ≡ entry_text entry) × IsPlace entry.place
unfolding entry_in
entry_takes text entry e =
    elim (chosen (ltb (length text) 1) None (entry_between (take (length text - 1) text) (get_or text (length text - 1) 0)) (Some entry) e) [
      | inl h ↦ absurd (let no : None ≡ Some entry = h.1 in cc)
      | inr h ↦ (let made = entry_made (take (length text - 1) text) (get_or text (length text - 1) 0) entry h.1 in
          (cut_one text (ltb-false _ _ h.0) ∙ made.0, made.1))
    ]

half_over : (h : Half) → is_over 44 (half_letter h ∷ []) ≡ true
half_over ToRead = refl
half_over ToWrite = refl

pub entry_over : (e : ReadyAt) → IsPlace e.place → is_over 44 (entry_text e) ≡ true
entry_over e fits = is_over-append 44 (place_text e.place) (half_letter e.half ∷ []) (place_over e.place fits) (half_over e.half)

-- ---- what a turn names

abbrev AllPlaces : List ReadyAt → Type 0
AllPlaces entries = AllByRecursion (λ entry. IsPlace entry.place) entries

entries_again : (entries : List ReadyAt) → AllPlaces entries → entries_in (map entry_text entries) ≡ Some entries
unfolding entries_in
entries_again [] fits = refl
entries_again (e ∷ es) fits = rw (entry_again e fits.0, entries_again es fits.1) refl

entries_lack : (entries : List ReadyAt) → AllPlaces entries → AllLack 44 (map entry_text entries)
entries_lack [] fits = tt
entries_lack (e ∷ es) fits = (lacks-from_over 44 44 (entry_text e) (lit≤ tt) (entry_over e fits.0), entries_lack es fits.1)

entry_longer : (e : ReadyAt) → 4 ≤ length (entry_text e)
entry_longer e =
    omega (arith, length-append (place_text e.place) (half_letter e.half ∷ []), length-append (decimal e.place.session) (side_letter e.place.side ∷ part_letter e.place.part ∷ door_letter e.place.door ∷ []))

no_dash : (e : ReadyAt) (es : List ReadyAt) → bytes_eq (ready_text (e ∷ es)) (codes "-") ≡ false
no_dash e es =
    other_bytes (ready_text (e ∷ es)) (codes "-") (λ same.
    let size : length (ready_text (e ∷ es)) ≡ 1 = ap length same in
    omega (arith, size, entry_longer e, joined_longer 44 (entry_text e) (map entry_text es)))

pub ready_again : (entries : List ReadyAt) → IsReady entries → ready_in (ready_text entries) ≡ Some entries
unfolding ready_in
ready_again [] fits = refl
ready_again (e ∷ es) fits =
    let parts : entries_in (slice_split (λ b. eqb b 44) (ready_text (e ∷ es))) ≡ Some (e ∷ es) =
    ap entries_in (split_joined 44 (entry_text e) (map entry_text es) (entries_lack (e ∷ es) fits.1)) ∙ entries_again (e ∷ es) fits.1 in
    rw (no_dash e es, parts, le-leb (length (e ∷ es)) 256 fits.0) refl

entries_take : (pieces : List (List ℕ)) (entries : List ReadyAt) → entries_in pieces ≡ Some entries → (pieces ≡ map entry_text entries) × AllPlaces entries
unfolding entries_in
entries_take [] entries e = subst (λ (x : List ReadyAt). ([] ≡ map entry_text x) × AllPlaces x) (same_Some [] entries e) (refl, tt)
entries_take (piece ∷ pieces) entries e =
    let a = bind_some (entry_in piece) (λ entry. entries_in pieces >>= λ more. Some (entry ∷ more)) entries e in
    let b = bind_some (entries_in pieces) (λ more. Some (a.0 ∷ more)) entries a.2 in
    let first = entry_takes piece a.0 a.1 in
    let others = entries_take pieces b.0 b.1 in
    let text : piece ∷ pieces ≡ map entry_text (a.0 ∷ b.0) = cons_is _ _ _ _ first.0 others.0 in
    subst (λ (x : List ReadyAt). (piece ∷ pieces ≡ map entry_text x) × AllPlaces x) {x = a.0 ∷ b.0} (same_Some (a.0 ∷ b.0) entries b.2) (text, (first.1, others.1))

nonempty_text : (entries : List ReadyAt) → 0 < length (map entry_text entries) → join_with_byte 44 (map entry_text entries) ≡ ready_text entries
nonempty_text [] some = absurd (omega arith)
nonempty_text (e ∷ es) some = refl

pub ready_takes : (text : List ℕ) (entries : List ReadyAt) → ready_in text ≡ Some entries → (text ≡ ready_text entries) × IsReady entries
unfolding ready_in
ready_takes text entries e =
    elim (chosen (bytes_eq text (codes "-")) (Some []) (entries_in (slice_split (λ b. eqb b 44) text) >>= λ found. only_if (leb (length found) 256) found) (Some entries) e) [
      | inl h ↦ subst (λ (x : List ReadyAt). (text ≡ ready_text x) × IsReady x) (same_Some [] entries h.1) (same_bytes text (codes "-") h.0, (lit≤ tt, tt))
      | inr h ↦ (let b = bind_some (entries_in (slice_split (λ b. eqb b 44) text)) (λ found. only_if (leb (length found) 256) found) entries h.1 in
          let g = only_some (leb (length b.0) 256) b.0 entries b.2 in
          let t = entries_take (slice_split (λ b. eqb b 44) text) b.0 b.1 in
          let some : 0 < length (map entry_text b.0) = omega (arith, ap length t.0, length-slice_split (λ b. eqb b 44) text) in
          let spelt : text ≡ ready_text b.0 =
          sym (join_with_byte-slice_split 44 text) ∙ ap (join_with_byte 44) t.0 ∙ nonempty_text b.0 some in
          subst (λ (x : List ReadyAt). (text ≡ ready_text x) × IsReady x) g.1 (spelt, (leb-true _ _ g.0, t.1)))
    ]

entries_over : (entries : List ReadyAt) → AllPlaces entries → AllByRecursion (λ piece. is_over 43 piece ≡ true) (map entry_text entries)
entries_over [] fits = tt
entries_over (e ∷ es) fits = (is_over-weaken 43 44 (entry_text e) (lit≤ tt) (entry_over e fits.0), entries_over es fits.1)

pub ready_over : (entries : List ReadyAt) → IsReady entries → is_over 43 (ready_text entries) ≡ true
ready_over [] fits = refl
ready_over (e ∷ es) fits = is_over-joined 43 44 (map entry_text (e ∷ es)) (lit< tt) (entries_over (e ∷ es) fits.1)
