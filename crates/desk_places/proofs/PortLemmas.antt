-- What calls on the ports of places say, by the place.
use Rattle.std.proofs.Common.{◌<◌, ◌≤◌, arith, find, length, nat_lt, position, slice_get, slice_index_or, zero, suc, [], ◌≡◌, ℕ, Bool, true, false, List, ◌∷◌, Option, None, Some, IfSome, is_some, option_map, refl, sym, ap, subst, ◌∙◌, if◌then◌else◌}
use Rattle.std.specs.List.{position_or_len}
use Rattle.std.proofs.lemmas.Bool.Decides.{nat_tests}
use Rattle.std.proofs.lemmas.List.Folds.{find_at}
use Rattle.std.proofs.lemmas.Option.{slice_get-get_or}
use Rattle.slab.specs.Slab.{Slab, Updates, get}
use Rattle.relay_model.specs.declared.places.Place.{Place}
use Rattle.relay_model.specs.Places.{same_place}
use Rattle.relay_model.specs.Holding.{Hold, Free, Settling, Open, ShutDown, is_free, is_open}
use Rattle.port_trait.specs.declared.answers.Shutting.TheVariants as shuttings
use Rattle.port_trait.specs.declared.answers.Settled.TheVariants as settles
use Rattle.world_trait.specs.declared.answers.OpenAnswer.TheVariants as opens
use Rattle.port_table.specs.Bases.{key_of}
use Rattle.port_table.specs.PortTables.{Errors, Input, Made, Output}
use Rattle.port_table.specs.Ports.{EntrySeen}
use Rattle.port_table.specs.declared.bases.Base.{Base}
use Rattle.port_table.specs.declared.bases.Base.TheVariants as bases
use Rattle.desk_places.specs.declared.places.PlaceEntry.{PlaceEntry}
use Rattle.desk_places.specs.Changes.{KeptFor, LeavesParent, LeftSo, made_at}
use Rattle.desk_places.specs.PlaceTables.{entry_at, base_at}
use Rattle.desk_places.proofs.PlaceLemmas.{same_place-eq}

-- a fact of the base that a place stands on
pub at_base : (xs : List PlaceEntry) (p : Place) (s : PlaceEntry) (Fact : Base → Type 0) → entry_at xs p ≡ Some s → Fact s.base → IfSome (base_at xs p) Fact
at_base xs p s Fact e fact =
    let At : Option PlaceEntry → Type 0 = λ slot. IfSome (option_map (λ t. t.base) slot) Fact in
    subst At (sym e) fact

-- two keys of one base
one_key : (xs : List PlaceEntry) (p : Place) (key other : ℕ) → base_at xs p ≡ Some (bases.Made key) → base_at xs p ≡ Some (bases.Made other) → other ≡ key
one_key xs p key other e f = let g : Some (bases.Made key) ≡ Some (bases.Made other) = sym e ∙ f in cc

-- the made port of a place that is let go is gone, and no other
pub let_go_gone : (xs : List PlaceEntry) (p : Place) (made made' : Slab EntrySeen) (key : ℕ) → base_at xs p ≡ Some (bases.Made key) → Updates made made' key None → (other : ℕ) → base_at xs p ≡ Some (bases.Made other) → get made' other ≡ None
let_go_gone xs p made made' key based updates other e = ap (get made') (one_key xs p key other based e) ∙ updates.changed

pub let_go_others : (xs : List PlaceEntry) (p : Place) (made made' : Slab EntrySeen) (key : ℕ) → base_at xs p ≡ Some (bases.Made key) → Updates made made' key None → (other : ℕ) → (base_at xs p ≡ Some (bases.Made other) → ⊥) → get made' other ≡ get made other
let_go_others xs p made made' key based updates other away =
    updates.others other (λ same. away (based ∙ ap (λ k. Some (bases.Made k)) (sym same)))

-- a base with a key is a made port, and one without isn't
pub key_made : (base : Base) (key : ℕ) → key_of base ≡ Some key → base ≡ bases.Made key
key_made (bases.Made other) key e = cc
key_made bases.Input key e = absurd cc
key_made bases.Output key e = absurd cc
key_made bases.Both key e = absurd cc
key_made bases.Errors key e = absurd cc

pub none_made : (made : Slab EntrySeen) (base : Base) → key_of base ≡ None → made_at made base ≡ None
none_made made (bases.Made key) e = absurd cc
none_made made bases.Input e = refl
none_made made bases.Output e = refl
none_made made bases.Both e = refl
none_made made bases.Errors e = refl

based_slot : (slot : Option PlaceEntry) (base : Base) → option_map (λ s. s.base) slot ≡ Some base → is_some slot ≡ true
based_slot None base e = absurd cc
based_slot (Some s) base e = refl

pub based_some : (xs : List PlaceEntry) (p : Place) (base : Base) → base_at xs p ≡ Some base → is_some (entry_at xs p) ≡ true
based_some xs p base e = based_slot (entry_at xs p) base e

pub open_held : (hold : Hold) → is_open hold ≡ true → is_free hold ≡ false
open_held Free e = absurd cc
open_held Settling e = absurd cc
open_held Open e = refl
open_held ShutDown e = refl

-- a port that is let go was joined where that was to be, and is kept where it has a child
kept_if : (b : Bool) (joined : Bool) (old new : EntrySeen) (before after : List EntrySeen) → new.place ≡ old.place → LeftSo joined old.port new.port → after ≡ (if b then new ∷ before else before) → KeptFor b joined old before after
kept_if true joined old new before after place left e =
    (new.port, left, e ∙ ap (λ p. record { place = p; port = new.port } ∷ before) place)
kept_if false joined old new before after place left e = e

pub leaves_parent : (joined : Bool) (slot : Option EntrySeen) (old new : EntrySeen) (child : Bool) (before after : List EntrySeen) → slot ≡ Some old → new.place ≡ old.place → LeftSo joined old.port new.port → child ≡ old.port.child → after ≡ (if child then new ∷ before else before) → LeavesParent joined slot before after
leaves_parent joined slot old new child before after is place left same e =
    subst (λ x. LeavesParent joined x before after) (sym is) (subst (λ b. KeptFor b joined old before after) same (kept_if child joined old new before after place left e))

failed_if : (b : Bool) (hold now : Hold) → now ≡ hold → (b ≡ true → hold ≡ Free) → now ≡ (if b then Free else hold)
failed_if true hold now e free = e ∙ free refl
failed_if false hold now e free = e

-- a free place that isn't held after all
pub stays_free : (before after : Place → Hold) (place : Place) → before place ≡ Free → ((p : Place) → after p ≡ before p) → (p : Place) → after p ≡ (if same_place place p then Free else before p)
stays_free before after place free same p = failed_if (same_place place p) (before p) (after p) (same p) (λ e. ap before (sym (same_place-eq place p e)) ∙ free)

free_if : (b : Bool) (hold now : Hold) → now ≡ (if b then Free else hold) → (b ≡ true → hold ≡ Free) → now ≡ hold
free_if true hold now e free = e ∙ sym (free refl)
free_if false hold now e free = e

-- and one that is free after all stood so
pub still_free : (before after : Place → Hold) (place : Place) → before place ≡ Free → ((p : Place) → after p ≡ (if same_place place p then Free else before p)) → (p : Place) → after p ≡ before p
still_free before after place free sets p = free_if (same_place place p) (before p) (after p) (sets p) (λ e. ap before (sym (same_place-eq place p e)) ∙ free)

past_all : {X : Type 0} (xs : List X) (i : ℕ) → length xs ≤ i → slice_get xs i ≡ None
past_all [] i le = refl
past_all (x ∷ xs) zero le = absurd (omega (arith, le))
past_all (x ∷ xs) (suc i) le = past_all xs i (omega (arith, le))

nowhere : (b : Bool) (n : ℕ) → (if b then Some n else None) ≡ None → b ≡ false
nowhere true n e = absurd cc
nowhere false n e = refl

somewhere : (b : Bool) (n i : ℕ) → (if b then Some n else None) ≡ Some i → n ≡ i
somewhere true n i e = cc
somewhere false n i e = absurd cc

over : (a b : ℕ) → nat_lt a b ≡ false → b ≤ a
over a b e = grind (arith, nat_tests)

-- what is at no index isn't found
pub found_nowhere : {X : Type 0} (p : X → Bool) (xs : List X) (found : Option ℕ) → found ≡ position p xs → found ≡ None → find p xs ≡ None
found_nowhere p xs found is none =
    find_at p xs ∙ past_all xs (position_or_len p xs) (over (position_or_len p xs) (length xs) (nowhere (nat_lt (position_or_len p xs) (length xs)) (position_or_len p xs) (sym is ∙ none)))

-- what is at an index is found there
pub found_at : {X : Type 0} (p : X → Bool) (xs : List X) (found : Option ℕ) (i : ℕ) (x : X) → found ≡ position p xs → found ≡ Some i → i < length xs → x ≡ slice_index_or xs i x → find p xs ≡ Some x
found_at p xs found i x is at lt value =
    let here : position_or_len p xs ≡ i = somewhere (nat_lt (position_or_len p xs) (length xs)) (position_or_len p xs) i (sym is ∙ at) in
    find_at p xs ∙ (ap (slice_get xs) here ∙ (slice_get-get_or xs i x lt ∙ ap Some (sym value)))
