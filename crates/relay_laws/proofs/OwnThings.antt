-- The places and doors of a session are its own.
use Rattle.std.proofs.Common.{◌≡◌, refl, sym, ap, ◌∙◌, ℕ, Bool, true, false, not, cond, ◌&&◌, ◌==◌, List, [], ◌∷◌, ◌++◌, map, filter, inl, inr, ◌⊎◌}
use Rattle.std.specs.List.{list_any}
use Rattle.std.proofs.lemmas.Bool.{false≢true, true≢false, and_parts, and_right, or_cases, not-true, false_from_ne_true}
use Rattle.relay_model.specs.declared.places.Side.{Side}
use Rattle.relay_model.specs.declared.places.Side.TheVariants.{Left, Right}
use Rattle.relay_model.specs.declared.places.Part.{Part}
use Rattle.relay_model.specs.declared.places.Part.TheVariants.{Both}
use Rattle.relay_model.specs.declared.places.Way.{Way}
use Rattle.relay_model.specs.declared.places.Way.TheVariants.{LeftToRight, RightToLeft}
use Rattle.relay_model.specs.declared.places.Place.{Place}
use Rattle.relay_model.specs.declared.commands.Config.{Config}
use Rattle.relay_model.specs.Places.{same_place, same_side, same_part, door_of}
use Rattle.relay_model.specs.Configs.{places, parts, place_at, things, own_doors, has_own_door, listens_at, has_fork, is_left, is_program_door, input, output}
use Rattle.relay_laws.proofs.PlaceLemmas.{same_place_equal, same_place_self}

-- ---- lists of a session's own places and doors

abbrev pub EachOwn : Config → ℕ → List Place → Type 0
EachOwn c s [] = Unit {0}
EachOwn c s (p ∷ ps) = (p.session ≡ s) × (is_program_door c p ≡ false) × EachOwn c s ps

no_door : (x y z f : Bool) → (x && y && false && z && f) ≡ false
no_door true true z f = refl
no_door true false z f = refl
no_door false y z f = refl

pub own_door : (l p d z f : Bool) → (l && f) ≡ false → (l && p && d && z && f) ≡ false
own_door true p d z f e = and_right (p && d && z) f e
own_door false p d z f e = refl

pub place_own : (c : Config) (s : ℕ) (side : Side) (part : Part) → is_program_door c (place_at s side part) ≡ false
place_own c s side part = no_door (same_side side Left) (same_part part Both) (s == 0) (has_fork c)

pub door_own : (c : Config) (p : Place) → has_own_door c p ≡ true → is_program_door c (door_of p) ≡ false
door_own c p e = own_door (same_side p.side Left) (same_part p.part Both) true (p.session == 0) (has_fork c) (not-true (is_left p && has_fork c) (and_parts (listens_at c p) (not (is_left p && has_fork c)) e).1)

each_append : (c : Config) (s : ℕ) (ps qs : List Place) → EachOwn c s ps → EachOwn c s qs → EachOwn c s (ps ++ qs)
each_append c s [] qs h k = k
each_append c s (p ∷ ps) qs h k = (h.0, h.1, each_append c s ps qs h.2 k)

each_mapped : (c : Config) (s : ℕ) (side : Side) (ps : List Part) → EachOwn c s (map (place_at s side) ps)
each_mapped c s side [] = tt
each_mapped c s side (part ∷ ps) = (refl, place_own c s side part, each_mapped c s side ps)

pub each_place : (c : Config) (s : ℕ) → EachOwn c s (places c s)
each_place c s = each_append c s (map (place_at s Left) (parts c Left)) (map (place_at s Right) (parts c Right)) (each_mapped c s Left (parts c Left)) (each_mapped c s Right (parts c Right))

each_filtered : (c : Config) (s : ℕ) (ps : List Place) → EachOwn c s ps → EachOwn c s (map door_of (filter (has_own_door c) ps))
each_filtered c s [] h = tt
each_filtered c s (p ∷ ps) h = go (has_own_door c p) refl (each_filtered c s ps h.2)
  where
    go : (b : Bool) → has_own_door c p ≡ b → EachOwn c s (map door_of (filter (has_own_door c) ps)) → EachOwn c s (map door_of (cond b (p ∷ filter (has_own_door c) ps) (filter (has_own_door c) ps)))
    go true e ih = (h.0, door_own c p e, ih)
    go false e ih = ih

pub each_door : (c : Config) (s : ℕ) → EachOwn c s (own_doors c s)
each_door c s = each_filtered c s (places c s) (each_place c s)

pub each_thing : (c : Config) (s : ℕ) → EachOwn c s (things c s)
each_thing c s = each_append c s (places c s) (own_doors c s) (each_place c s) (each_door c s)

-- a thing among these is the session's own
pub among_own : (c : Config) (s : ℕ) (q : Place) (ps : List Place) → EachOwn c s ps → list_any (same_place q) ps ≡ true → (q.session ≡ s) × (is_program_door c q ≡ false)
among_own c s q [] own e = absurd (false≢true e)
among_own c s q (p ∷ ps) own e = go (or_cases (same_place q p) (list_any (same_place q) ps) e) (among_own c s q ps own.2)
  where
    go : (same_place q p ≡ true) ⊎ (list_any (same_place q) ps ≡ true) → (list_any (same_place q) ps ≡ true → (q.session ≡ s) × (is_program_door c q ≡ false)) → (q.session ≡ s) × (is_program_door c q ≡ false)
    go (inl here) ih = let k = same_place_equal q p here in (ap (λ x. x.session) k ∙ own.0, ap (is_program_door c) k ∙ own.1)
    go (inr there) ih = ih there

-- where nothing of the session's own is the same as q, q is none of these
pub none_among : (c : Config) (s : ℕ) (q : Place) (ps : List Place) → EachOwn c s ps → ((p : Place) → p.session ≡ s → is_program_door c p ≡ false → same_place q p ≡ false) → list_any (same_place q) ps ≡ false
none_among c s q ps own foreign = false_from_ne_true (list_any (same_place q) ps) (λ e. let o = among_own c s q ps own e in true≢false (sym (same_place_self q) ∙ foreign q o.0 o.1))

pub input_own : (c : Config) (s : ℕ) (w : Way) → is_program_door c (input c s w) ≡ false
input_own c s LeftToRight = place_own c s Left (input c s LeftToRight).part
input_own c s RightToLeft = place_own c s Right (input c s RightToLeft).part

pub output_own : (c : Config) (s : ℕ) (w : Way) → is_program_door c (output c s w) ≡ false
output_own c s LeftToRight = place_own c s Right (output c s LeftToRight).part
output_own c s RightToLeft = place_own c s Left (output c s RightToLeft).part
