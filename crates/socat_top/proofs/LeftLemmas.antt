-- What the reads of a place leave of its items.
use Rattle.std.proofs.Common.{◌≡◌, ℕ, zero, suc, Bool, true, false, ◌&&◌, nat_lt, List, [], ◌∷◌, ◌++◌, length, take, drop, find, Option, Some, None, option_map, refl, sym, ap, ◌∙◌, arith, if◌then◌else◌}
use Rattle.std.proofs.lemmas.Bool.{false≢true, ltb-false}
use Rattle.std.proofs.lemmas.List.{drop_all}
use Rattle.relay_model.specs.declared.places.Place.{Place}
use Rattle.relay_model.specs.Places.{same_place}
use Rattle.relay_model.specs.Choices.{joined}
use Rattle.relay_model.specs.Transfers.{is_empty}
use Rattle.relay_laws.proofs.PlaceLemmas.{same_place_equal}
use Rattle.scripted_world.specs.declared.lines.PlacedItem.{PlacedItem}
use Rattle.scripted_world.specs.declared.reading.DueRead.{DueRead}
use Rattle.scripted_world.specs.declared.reading.Reading.{Reading}
use Rattle.scripted_world.specs.declared.reading.Reading.TheVariants as readings
use Rattle.scripted_world.specs.declared.reading.Given.{Given}
use Rattle.scripted_world.specs.declared.reading.Given.TheVariants as given
use Rattle.scripted_world.specs.Lines.{next_of, used_up}
use Rattle.scripted_world.specs.Reads.{bytes_left, bytes_of, gives_due, has_more, line_left, next_bytes, read_given, rest_of}
use Rattle.socat_top.specs.Left.{ends_last, is_end, left_of}

-- ---- small steps

nil_right : {A : Type 0} (xs : List A) → xs ++ [] ≡ xs
nil_right [] = refl
nil_right (x ∷ xs) = ap (λ ys. x ∷ ys) (nil_right xs)

pub nil_behind : (xs ys : List ℕ) → xs ++ ys ≡ [] → ys ≡ []
nil_behind [] ys e = e
nil_behind (x ∷ xs) ys e = absurd (let f : ⊥ = cc in f)

pub nil_is_empty : (xs : List ℕ) → xs ≡ [] → is_empty xs ≡ true
nil_is_empty [] e = refl
nil_is_empty (x ∷ xs) e = absurd (let f : ⊥ = cc in f)

pub empty_is_nil : (xs : List ℕ) → is_empty xs ≡ true → xs ≡ []
empty_is_nil [] e = refl
empty_is_nil (x ∷ xs) e = absurd (false≢true e)

-- a place is not the same as two that differ
apart : (q place p : Place) → same_place q place ≡ false → same_place q p ≡ true → same_place place p ≡ false
apart q place p other same = go (same_place place p) refl
  where
    go : (b : Bool) → same_place place p ≡ b → same_place place p ≡ false
    go true e = absurd (false≢true (sym other ∙ ap (same_place q) (same_place_equal place p e) ∙ same))
    go false e = e

-- the bytes of an item, of which the first are given
cut_bytes : (k : ℕ) (xs rest : List ℕ) → xs ++ rest ≡ take k xs ++ (drop k xs ++ rest)
cut_bytes zero xs rest = refl
cut_bytes (suc k) [] rest = refl
cut_bytes (suc k) (x ∷ xs) rest = ap (λ ys. x ∷ ys) (cut_bytes k xs rest)

-- ---- an item of which bytes are given

none_left : (r : Reading) (k : ℕ) → has_more r k ≡ false → drop k (bytes_of r) ≡ []
none_left (readings.Bytes bytes) k e = drop_all k bytes (ltb-false k (length bytes) e)
none_left readings.Empty k e = drop_all k [] (omega arith)
none_left readings.End k e = drop_all k [] (omega arith)
none_left readings.Fault k e = drop_all k [] (omega arith)

some_left : (r : Reading) (k : ℕ) → has_more r k ≡ true → (bytes_of (rest_of r k) ≡ drop k (bytes_of r)) × (is_end r ≡ false) × (is_end (rest_of r k) ≡ false)
some_left (readings.Bytes bytes) k e = (refl, refl, refl)
some_left readings.Empty k e = absurd (false≢true e)
some_left readings.End k e = absurd (false≢true e)
some_left readings.Fault k e = absurd (false≢true e)

-- the first item, cut
cut_line : (line : PlacedItem DueRead) (lines : List (PlacedItem DueRead)) (k : ℕ) (p : Place) (b : Bool) → has_more line.item.reading k ≡ b → (if same_place line.place p then drop k (bytes_of line.item.reading) ++ left_of lines p else left_of lines p) ≡ left_of (if b then line_left line k ∷ lines else lines) p
cut_line line lines k p true e = ap (λ bs. if same_place line.place p then bs ++ left_of lines p else left_of lines p) (sym (some_left line.item.reading k e).0)
cut_line line lines k p false e = go (same_place line.place p)
  where
    go : (c : Bool) → (if c then drop k (bytes_of line.item.reading) ++ left_of lines p else left_of lines p) ≡ left_of lines p
    go true = ap (λ bs. bs ++ left_of lines p) (none_left line.item.reading k e)
    go false = refl

here : (b : Bool) (k : ℕ) (xs rest : List ℕ) → (if b then xs ++ rest else rest) ≡ joined b [] (take k xs) ++ (if b then drop k xs ++ rest else rest)
here true k xs rest = cut_bytes k xs rest
here false k xs rest = refl

elsewhere : (c b : Bool) (mine bytes rest rest' : List ℕ) → (c ≡ true → b ≡ false) → rest ≡ joined b [] bytes ++ rest' → (if c then mine ++ rest else rest) ≡ joined b [] bytes ++ (if c then mine ++ rest' else rest')
elsewhere true b mine bytes rest rest' apart e =
    let off : joined b [] bytes ≡ [] = ap (λ x. joined x [] bytes) (apart refl) in
    ap (λ ys. mine ++ ys) (e ∙ ap (λ ys. ys ++ rest') off) ∙ sym (ap (λ ys. ys ++ (mine ++ rest')) off)
elsewhere false b mine bytes rest rest' apart e = e

first_none : (b : Bool) (k : ℕ) → let none : List ℕ = [] in none ≡ joined b [] (take k none) ++ none
first_none true zero = refl
first_none true (suc k) = refl
first_none false k = refl

-- the bytes that were left of a place are those given there, and those that are left then
pub left-given : (lines : List (PlacedItem DueRead)) (place p : Place) (k : ℕ) → left_of lines p ≡ joined (same_place place p) [] (take k (next_bytes (next_of lines place))) ++ left_of (bytes_left lines place k) p
left-given [] place p k = first_none (same_place place p) k
left-given (line ∷ lines) place p k = go (same_place line.place place) refl (left-given lines place p k)
  where
    go : (b : Bool) → same_place line.place place ≡ b → left_of lines p ≡ joined (same_place place p) [] (take k (next_bytes (next_of lines place))) ++ left_of (bytes_left lines place k) p → left_of (line ∷ lines) p ≡ joined (same_place place p) [] (take k (next_bytes (option_map (λ line. line.item) (if b then Some line else find (λ line. same_place line.place place) lines)))) ++ left_of (if b then (if has_more line.item.reading k then line_left line k ∷ lines else lines) else line ∷ bytes_left lines place k) p
    go true e ih =
        here (same_place line.place p) k (bytes_of line.item.reading) (left_of lines p)
        ∙ ap (λ ys. joined (same_place line.place p) [] (take k (bytes_of line.item.reading)) ++ ys) (cut_line line lines k p (has_more line.item.reading k) refl)
        ∙ ap (λ q. joined (same_place q p) [] (take k (bytes_of line.item.reading)) ++ left_of (if has_more line.item.reading k then line_left line k ∷ lines else lines) p) (same_place_equal line.place place e)
    go false e ih = elsewhere (same_place line.place p) (same_place place p) (bytes_of line.item.reading) (take k (next_bytes (next_of lines place))) (left_of lines p) (left_of (bytes_left lines place k) p) (apart line.place place p e) ih

-- ---- an item that is used up

-- what is used up without bytes leaves the bytes
pub left-used : (lines : List (PlacedItem DueRead)) (place p : Place) → next_bytes (next_of lines place) ≡ [] → left_of (used_up lines place) p ≡ left_of lines p
left-used [] place p none = refl
left-used (line ∷ lines) place p none = go (same_place line.place place) none (left-used lines place p)
  where
    same : (c : Bool) (mine rest rest' : List ℕ) → rest' ≡ rest → (if c then mine ++ rest' else rest') ≡ (if c then mine ++ rest else rest)
    same true mine rest rest' e = ap (λ ys. mine ++ ys) e
    same false mine rest rest' e = e

    gone : (c : Bool) (mine rest : List ℕ) → mine ≡ [] → rest ≡ (if c then mine ++ rest else rest)
    gone true mine rest e = ap (λ ys. ys ++ rest) (sym e)
    gone false mine rest e = refl

    go : (b : Bool) → next_bytes (option_map (λ line. line.item) (if b then Some line else find (λ line. same_place line.place place) lines)) ≡ [] → (next_bytes (next_of lines place) ≡ [] → left_of (used_up lines place) p ≡ left_of lines p) → left_of (if b then lines else line ∷ used_up lines place) p ≡ left_of (line ∷ lines) p
    go true none ih = gone (same_place line.place p) (bytes_of line.item.reading) (left_of lines p) none
    go false none ih = same (same_place line.place p) (bytes_of line.item.reading) (left_of lines p) (left_of (used_up lines place) p) (ih none)

-- ---- ends come last

-- where nothing is left, no end comes too early
pub empty-in_order : (lines : List (PlacedItem DueRead)) (p : Place) → left_of lines p ≡ [] → ends_last lines p ≡ true
empty-in_order [] p e = refl
empty-in_order (line ∷ lines) p e = go (same_place line.place p) (is_end line.item.reading) e (empty-in_order lines p)
  where
    go : (c d : Bool) → (if c then bytes_of line.item.reading ++ left_of lines p else left_of lines p) ≡ [] → (left_of lines p ≡ [] → ends_last lines p ≡ true) → (if c && d then is_empty (left_of lines p) else ends_last lines p) ≡ true
    go true true f ih = nil_is_empty (left_of lines p) (nil_behind (bytes_of line.item.reading) (left_of lines p) f)
    go true false f ih = ih (nil_behind (bytes_of line.item.reading) (left_of lines p) f)
    go false d f ih = ih f

-- behind the first item ends come last too
in_order-behind : (b : Bool) (lines : List (PlacedItem DueRead)) (p : Place) → (if b then is_empty (left_of lines p) else ends_last lines p) ≡ true → ends_last lines p ≡ true
in_order-behind true lines p e = empty-in_order lines p (empty_is_nil (left_of lines p) e)
in_order-behind false lines p e = e

-- the same items behind one, of which less is left
in_order-less : (b : Bool) (lines less : List (PlacedItem DueRead)) (p : Place) → (left_of lines p ≡ [] → left_of less p ≡ []) → (ends_last lines p ≡ true → ends_last less p ≡ true) → (if b then is_empty (left_of lines p) else ends_last lines p) ≡ true → (if b then is_empty (left_of less p) else ends_last less p) ≡ true
in_order-less true lines less p empty orders e = nil_is_empty (left_of less p) (empty (empty_is_nil (left_of lines p) e))
in_order-less false lines less p empty orders e = orders e

pub in_order-given : (lines : List (PlacedItem DueRead)) (place p : Place) (k : ℕ) → ends_last lines p ≡ true → ends_last (bytes_left lines place k) p ≡ true
in_order-given [] place p k e = refl
in_order-given (line ∷ lines) place p k e = go (same_place line.place place) (in_order-given lines place p k)
  where
    more : (b : Bool) → has_more line.item.reading k ≡ b → ends_last (if b then line_left line k ∷ lines else lines) p ≡ true
    more true h = ap (λ d. if same_place line.place p && d then is_empty (left_of lines p) else ends_last lines p) ((some_left line.item.reading k h).2 ∙ sym (some_left line.item.reading k h).1) ∙ e
    more false h = in_order-behind (same_place line.place p && is_end line.item.reading) lines p e

    go : (b : Bool) → (ends_last lines p ≡ true → ends_last (bytes_left lines place k) p ≡ true) → ends_last (if b then (if has_more line.item.reading k then line_left line k ∷ lines else lines) else line ∷ bytes_left lines place k) p ≡ true
    go true ih = more (has_more line.item.reading k) refl
    go false ih =
        in_order-less (same_place line.place p && is_end line.item.reading) lines (bytes_left lines place k) p
        (λ none. nil_behind (joined (same_place place p) [] (take k (next_bytes (next_of lines place)))) (left_of (bytes_left lines place k) p) (sym (left-given lines place p k) ∙ none))
        ih e

pub in_order-used : (lines : List (PlacedItem DueRead)) (place p : Place) → next_bytes (next_of lines place) ≡ [] → ends_last lines p ≡ true → ends_last (used_up lines place) p ≡ true
in_order-used [] place p none e = refl
in_order-used (line ∷ lines) place p none e = go (same_place line.place place) none (in_order-used lines place p)
  where
    go : (b : Bool) → next_bytes (option_map (λ line. line.item) (if b then Some line else find (λ line. same_place line.place place) lines)) ≡ [] → (next_bytes (next_of lines place) ≡ [] → ends_last lines p ≡ true → ends_last (used_up lines place) p ≡ true) → ends_last (if b then lines else line ∷ used_up lines place) p ≡ true
    go true none ih = in_order-behind (same_place line.place p && is_end line.item.reading) lines p e
    go false none ih =
        in_order-less (same_place line.place p && is_end line.item.reading) lines (used_up lines place) p
        (λ f. left-used lines place p none ∙ f) (ih none) e

-- ---- what was given

gives_none : (r : Reading) (b : Bool) (room : ℕ) (what : Given) → what ≡ (if b then given.NotYet else gives_due r room) → ((m : ℕ) → what ≡ given.Bytes m → ⊥) → (what ≡ given.NotYet → ⊥) → bytes_of r ≡ []
gives_none r true room what e some wait = absurd (wait e)
gives_none (readings.Bytes bytes) false room what e some wait = absurd (some _ e)
gives_none readings.Empty false room what e some wait = refl
gives_none readings.End false room what e some wait = refl
gives_none readings.Fault false room what e some wait = refl

-- what gives neither bytes nor nothing has none
pub no-bytes : (next : Option DueRead) (now room : ℕ) (what : Given) → what ≡ read_given next now room → ((m : ℕ) → what ≡ given.Bytes m → ⊥) → (what ≡ given.NotYet → ⊥) → next_bytes next ≡ []
no-bytes None now room what e some wait = refl
no-bytes (Some line) now room what e some wait = gives_none line.reading (nat_lt now line.at) room what e some wait

ends_so : (r : Reading) (b : Bool) (room : ℕ) → given.End ≡ (if b then given.NotYet else gives_due r room) → is_end r ≡ true
ends_so r true room e = absurd (let f : ⊥ = cc in f)
ends_so (readings.Bytes bytes) false room e = absurd (let f : ⊥ = cc in f)
ends_so readings.Empty false room e = absurd (let f : ⊥ = cc in f)
ends_so readings.End false room e = refl
ends_so readings.Fault false room e = absurd (let f : ⊥ = cc in f)

-- an end that is given leaves nothing of its place
pub left-end : (lines : List (PlacedItem DueRead)) (place : Place) (now room : ℕ) → given.End ≡ read_given (next_of lines place) now room → ends_last lines place ≡ true → left_of (used_up lines place) place ≡ []
left-end [] place now room e orders = refl
left-end (line ∷ lines) place now room e orders = go (same_place line.place place) e orders refl (left-end lines place now room)
  where
    go : (b : Bool) → given.End ≡ read_given (option_map (λ line. line.item) (if b then Some line else find (λ line. same_place line.place place) lines)) now room → (if b && is_end line.item.reading then is_empty (left_of lines place) else ends_last lines place) ≡ true → same_place line.place place ≡ b → (given.End ≡ read_given (next_of lines place) now room → ends_last lines place ≡ true → left_of (used_up lines place) place ≡ []) → left_of (if b then lines else line ∷ used_up lines place) place ≡ []
    go true e orders same ih = empty_is_nil (left_of lines place) (ap (λ d. if d then is_empty (left_of lines place) else ends_last lines place) (sym (ends_so line.item.reading (nat_lt now line.item.at) room e)) ∙ orders)
    go false e orders same ih = ap (λ c. if c then bytes_of line.item.reading ++ left_of (used_up lines place) place else left_of (used_up lines place) place) same ∙ ih e orders
