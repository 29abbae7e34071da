-- What a list of ready halves names after another was named.
use Rattle.std.proofs.Common.{◌≡◌, ◌≤◌, ◌<◌, ◌+◌, ◌⊎◌, inl, inr, ℕ, zero, suc, Bool, true, false, ◌&&◌, ◌||◌, ◌↔◌, IsTrue, List, [], ◌∷◌, ◌++◌, length, slice_get, Option, Some, None, IfSome, option_map, refl, sym, ap, subst, ◌∙◌, arith}
use Rattle.std.specs.Bool.{OnTrue, OnFalse}
use Rattle.relay_model.specs.declared.places.Place.{Place}
use Rattle.relay_model.specs.declared.places.Half.{Half}
use Rattle.relay_model.specs.declared.places.Half.TheVariants.{ToRead, ToWrite}
use Rattle.relay_model.specs.declared.readiness.ReadyAt.{ReadyAt}
use Rattle.relay_model.specs.Places.{same_place, same_half}
use Rattle.relay_model.specs.Holding.{Hold, is_free}
use Rattle.relay_model.specs.Readiness.{Listed, names}
use Rattle.world_trait.specs.Answers.{NamesHeld}
use Rattle.slab.specs.Slab.{Slab, get}
use Rattle.port_table.specs.PortTables.{place_of}
use Rattle.port_table.specs.Ports.{EntrySeen}
use Rattle.port_table.specs.declared.bases.Base.{Base}
use Rattle.port_table.specs.declared.bases.Base.TheVariants as bases
use Rattle.desk_places.specs.declared.places.PlaceEntry.{PlaceEntry}
use Rattle.desk_places.specs.Standing.{IsSound, stands_on}
use Rattle.desk_places.specs.Keys.{KeyTable}
use Rattle.port_table.specs.Bases.{is_keyed}
use Rattle.desk_places.specs.PlaceTables.{base_at, base_by, hold_at, hold_by, entry_at}
use Rattle.desk_places.proofs.KeyLemmas.{is_same}
use Rattle.desk_places.proofs.PlaceLemmas.{same_place-same}
use Rattle.desk_places.proofs.SoundLemmas.{stands_at}
use Rattle.desk_places.proofs.EntryLemmas.{standing_held}
use Rattle.desk_places.specs.Naming.{Grown, IsNamed, KeyNamed, NamesAt, NamesKeyed}

or_left : (a b : Bool) → a ≡ true → (a || b) ≡ true
or_left true b e = refl
or_left false b e = absurd cc

or_step : (a b c : Bool) → (b ≡ true → c ≡ true) → (a || b) ≡ true → (a || c) ≡ true
or_step true b c ih e = refl
or_step false b c ih e = ih e

or_right : (a b : Bool) → b ≡ true → (a || b) ≡ true
or_right true b e = refl
or_right false b e = e

names_more : (xs ys : List ReadyAt) (p : Place) (half : Half) → names xs p half ≡ true → names (xs ++ ys) p half ≡ true
names_more [] ys p half e = absurd cc
names_more (x ∷ xs) ys p half e = or_step (same_place x.place p && same_half x.half half) (names xs p half) (names (xs ++ ys) p half) (names_more xs ys p half) e

same_half_same : (half : Half) → same_half half half ≡ true
same_half_same ToRead = refl
same_half_same ToWrite = refl

and_both : (a b : Bool) → a ≡ true → b ≡ true → (a && b) ≡ true
and_both true b e f = f
and_both false b e f = absurd cc

names_last : (xs : List ReadyAt) (e : ReadyAt) → names (xs ++ e ∷ []) e.place e.half ≡ true
names_last [] e = or_left (same_place e.place e.place && same_half e.half e.half) false (and_both (same_place e.place e.place) (same_half e.half e.half) (same_place-same e.place) (same_half_same e.half))
names_last (x ∷ xs) e = or_right (same_place x.place e.place && same_half x.half e.half) (names (xs ++ e ∷ []) e.place e.half) (names_last xs e)

held_last : (hold : Place → Hold) (xs : List ReadyAt) (e : ReadyAt) → is_free (hold e.place) ≡ false → NamesHeld hold xs → NamesHeld hold (xs ++ e ∷ [])
held_last hold [] e free h = (free, tt)
held_last hold (x ∷ xs) e free h = (h.0, held_last hold xs e free h.1)

longer : (xs : List ReadyAt) (e : ReadyAt) → length xs ≤ length (xs ++ e ∷ [])
longer [] e = omega arith
longer (x ∷ xs) e = omega (arith, longer xs e)

one_longer : (xs : List ReadyAt) (e : ReadyAt) → length (xs ++ e ∷ []) ≤ length xs + 1
one_longer [] e = omega arith
one_longer (x ∷ xs) e = omega (arith, one_longer xs e)

not_below : (n : ℕ) → (IsTrue false ↔ (n < 256)) → 256 ≤ n
not_below n full =
    let above : n < 256 → ⊥ = λ below. let f : false ≡ true = full.1 below in cc in
    omega (arith, above)

-- what a push does, full or not
pub push_named : (b : Bool) (old new : Listed) (e : ReadyAt) → (IsTrue b ↔ (length old.entries < 256)) → OnTrue b (new ≡ record old { entries = old.entries ++ e ∷ [] }) → OnFalse b (new ≡ old) → IsNamed new.entries e.place e.half
push_named true old new e full pushed refused = inl (ap (λ (l : Listed). names l.entries e.place e.half) pushed ∙ names_last old.entries e)
push_named false old new e full pushed refused = inr (rw refused (not_below (length old.entries) full))

-- what has room is named
pub push_fits : (b : Bool) (old new : Listed) (e : ReadyAt) → (IsTrue b ↔ (length old.entries < 256)) → OnTrue b (new ≡ record old { entries = old.entries ++ e ∷ [] }) → length old.entries < 256 → names new.entries e.place e.half ≡ true
push_fits true old new e full pushed fits = ap (λ (l : Listed). names l.entries e.place e.half) pushed ∙ names_last old.entries e
push_fits false old new e full pushed fits = absurd (let f : false ≡ true = full.1 fits in cc)

pub push_most : (b : Bool) (old new : Listed) (e : ReadyAt) → OnTrue b (new ≡ record old { entries = old.entries ++ e ∷ [] }) → OnFalse b (new ≡ old) → length new.entries ≤ length old.entries + 1
push_most true old new e pushed refused = rw pushed (one_longer old.entries e)
push_most false old new e pushed refused = rw refused (omega arith)

pub push_grown : (b : Bool) (old new : Listed) (e : ReadyAt) → OnTrue b (new ≡ record old { entries = old.entries ++ e ∷ [] }) → OnFalse b (new ≡ old) → Grown old.entries new.entries
push_grown true old new e pushed refused = rw pushed (record { kept = λ p half h. names_more old.entries (e ∷ []) p half h; longer = longer old.entries e })
push_grown false old new e pushed refused = rw refused (record { kept = λ p half h. h; longer = omega arith })

pub push_held : (b : Bool) (old new : Listed) (e : ReadyAt) → OnTrue b (new ≡ record old { entries = old.entries ++ e ∷ [] }) → OnFalse b (new ≡ old) → (hold : Place → Hold) → is_free (hold e.place) ≡ false → NamesHeld hold old.entries → NamesHeld hold new.entries
push_held true old new e pushed refused hold free h = rw pushed (held_last hold old.entries e free h)
push_held false old new e pushed refused hold free h = rw refused h

pub grown_same : (xs : List ReadyAt) → Grown xs xs
grown_same xs = record { kept = λ p half h. h; longer = omega arith }

pub grown_then : (xs ys zs : List ReadyAt) → Grown xs ys → Grown ys zs → Grown xs zs
grown_then xs ys zs one two = record { kept = λ p half h. two.kept p half (one.kept p half h); longer = omega (arith, one.longer, two.longer) }

pub named_on : (xs ys : List ReadyAt) (p : Place) (half : Half) → Grown xs ys → IsNamed xs p half → IsNamed ys p half
named_on xs ys p half grown (inl e) = inl (grown.kept p half e)
named_on xs ys p half grown (inr full) = inr (omega (arith, full, grown.longer))

-- a place stands as before
pub names_on : (before after : Place → Hold) (entries : List ReadyAt) → ((p : Place) → after p ≡ before p) → NamesHeld before entries → NamesHeld after entries
names_on before after [] same h = tt
names_on before after (e ∷ entries) same h = (ap is_free (same e.place) ∙ h.0, names_on before after entries same h.1)

below_next : (i j : ℕ) → (j < i) ⊎ (j ≡ i) → (suc j < suc i) ⊎ (suc j ≡ suc i)
below_next i j (inl below) = inl (omega (arith, below))
below_next i j (inr same) = inr (ap suc same)

pub below_or_last : (i j : ℕ) → j < i + 1 → (j < i) ⊎ (j ≡ i)
below_or_last zero zero below = inr refl
below_or_last (suc i) zero below = inl (omega arith)
below_or_last zero (suc j) below = absurd (omega (arith, below))
below_or_last (suc i) (suc j) below = below_next i j (below_or_last i j (omega (arith, below)))

key_on : (e : ℕ × Half) (places : List PlaceEntry) (xs ys : List ReadyAt) → Grown xs ys → KeyNamed e places xs → KeyNamed e places ys
key_on e places xs ys grown named p based = grown.kept p e.1 (named p based)

-- halves that were named for their keys stay so
pub keyed_on : (entries : List (ℕ × Half)) (places : List PlaceEntry) (xs ys : List ReadyAt) → Grown xs ys → NamesKeyed entries places xs → NamesKeyed entries places ys
keyed_on entries places xs ys grown named i e here = key_on e places xs ys grown (named i e here)

keyed_step : (entries : List (ℕ × Half)) (places : List PlaceEntry) (i j : ℕ) (last e : ℕ × Half) (xs ys : List ReadyAt) → (j < i) ⊎ (j ≡ i) → slice_get entries i ≡ Some last → slice_get entries j ≡ Some e → Grown xs ys → (j < i → KeyNamed e places xs) → KeyNamed last places ys → KeyNamed e places ys
keyed_step entries places i j last e xs ys (inl below) at here grown before named = key_on e places xs ys grown (before below)
keyed_step entries places i j last e xs ys (inr same) at here grown before named =
    let f : Some last ≡ Some e = sym at ∙ (ap (slice_get entries) (sym same) ∙ here) in
    let is : last ≡ e = cc in
    subst (λ x. KeyNamed x places ys) is named

-- one more entry whose place is named
pub keyed_more : (entries : List (ℕ × Half)) (places : List PlaceEntry) (i : ℕ) (last : ℕ × Half) (xs ys : List ReadyAt) → slice_get entries i ≡ Some last → Grown xs ys → ((j : ℕ) (e : ℕ × Half) → j < i → slice_get entries j ≡ Some e → KeyNamed e places xs) → KeyNamed last places ys → (j : ℕ) (e : ℕ × Half) → j < i + 1 → slice_get entries j ≡ Some e → KeyNamed e places ys
keyed_more entries places i last xs ys at grown before named j e below here =
    keyed_step entries places i j last e xs ys (below_or_last i j below) at here grown (λ b. before j e b here) named

pub within : {X : Type 0} (xs : List X) (i : ℕ) (x : X) → slice_get xs i ≡ Some x → i < length xs
within [] i x e = absurd cc
within (y ∷ xs) zero x e = omega arith
within (y ∷ xs) (suc i) x e = omega (arith, within xs i x e)

-- every entry was gone through
pub keyed_all : (entries : List (ℕ × Half)) (places : List PlaceEntry) (i : ℕ) (xs : List ReadyAt) → length entries ≤ i → ((j : ℕ) (e : ℕ × Half) → j < i → slice_get entries j ≡ Some e → KeyNamed e places xs) → NamesKeyed entries places xs
keyed_all entries places i xs past named j e here = named j e (omega (arith, within entries j e here, past)) here

-- the place that stands on a key is the one that its port was made for
keyed_slot : (made : Slab EntrySeen) (covered : ℕ) (p : Place) (slot : Option PlaceEntry) (key : ℕ) → option_map (λ s. s.base) slot ≡ Some (bases.Made key) → IfSome slot (λ s. stands_on made covered p s.base ≡ true) → place_of (get made key) ≡ Some p
keyed_slot made covered p None key based stands = absurd cc
keyed_slot made covered p (Some s) key based stands =
    let is : s.base ≡ bases.Made key = cc in
    let at = stands_at made covered p s.base key is stands in
    ap place_of at.1 ∙ ap Some at.2

pub keyed_place : (places : List PlaceEntry) (made : Slab EntrySeen) (listed : KeyTable) (p : Place) (key : ℕ) → IsSound places made listed → base_at places p ≡ Some (bases.Made key) → place_of (get made key) ≡ Some p
keyed_place places made listed p key sound based = keyed_slot made listed.covered p (entry_at places p) key based (sound.entered p)

pub made_for : (places : List PlaceEntry) (made : Slab EntrySeen) (listed : KeyTable) (place p : Place) (key : ℕ) → IsSound places made listed → place_of (get made key) ≡ Some place → base_at places p ≡ Some (bases.Made key) → place ≡ p
made_for places made listed place p key sound here based =
    let f : Some place ≡ Some p = sym here ∙ keyed_place places made listed p key sound based in cc

pub not_free : (places : List PlaceEntry) (p place : Place) (key : ℕ) → place ≡ p → entry_at places place ≡ None → base_at places p ≡ Some (bases.Made key) → ⊥
not_free places p place key same none based =
    let e : None ≡ Some (bases.Made key) = sym (ap base_by none) ∙ (ap (base_at places) same ∙ based) in
    absurd cc

keyed_by : (key : ℕ) (base : Base) → base ≡ bases.Made key → is_keyed key base ≡ true
keyed_by key base is = ap (is_keyed key) is ∙ is_same key key refl

pub not_unkeyed : (places : List PlaceEntry) (p place : Place) (key : ℕ) (entry : PlaceEntry) → place ≡ p → entry_at places place ≡ Some entry → is_keyed key entry.base ≡ false → base_at places p ≡ Some (bases.Made key) → ⊥
not_unkeyed places p place key entry same found off based =
    let e : Some entry.base ≡ Some (bases.Made key) = sym (ap base_by found) ∙ (ap (base_at places) same ∙ based) in
    let is : entry.base ≡ bases.Made key = cc in
    let f : true ≡ false = sym (keyed_by key entry.base is) ∙ off in
    absurd cc

pub taken_place : (found : Option Place) (place p : Place) → found ≡ Some place → found ≡ Some p → place ≡ p
taken_place found place p at is = let e : Some place ≡ Some p = sym at ∙ is in cc

pub taken_out : (found : Option Place) (p : Place) → found ≡ None → found ≡ Some p → ⊥
taken_out found p none is = let e : None ≡ Some p = sym none ∙ is in absurd cc

-- a place that stands on a port is held
pub based_held : (places : List PlaceEntry) (p : Place) (base : Base) → base_at places p ≡ Some base → is_free (hold_at places p) ≡ false
based_held places p base based = held_slot (entry_at places p) base based
  where
    held_slot : (slot : Option PlaceEntry) (b : Base) → option_map (λ s. s.base) slot ≡ Some b → is_free (hold_by slot) ≡ false
    held_slot None b e = absurd cc
    held_slot (Some s) b e = standing_held s.standing

push_room : (b : Bool) (old new : Listed) (e : ReadyAt) → OnTrue b (new ≡ record old { entries = old.entries ++ e ∷ [] }) → OnFalse b (new ≡ old) → new.room ≡ old.room
push_room true old new e pushed refused = ap (λ (list : Listed). list.room) pushed
push_room false old new e pushed refused = ap (λ (list : Listed). list.room) refused

-- a half of this place more, full or not
pub push_at : (b : Bool) (old new : Listed) (e : ReadyAt) → OnTrue b (new ≡ record old { entries = old.entries ++ e ∷ [] }) → OnFalse b (new ≡ old) → NamesAt e.place old new
push_at b old new e pushed refused = record {
  room = push_room b old new e pushed refused;
  grown = push_grown b old new e pushed refused;
  held = push_held b old new e pushed refused;
}
