-- What places stand on after a change of their entries.
use Rattle.std.proofs.Common.{◌≡◌, Bool, true, false, List, Option, None, Some, option_map, refl, ap, ◌∙◌, if◌then◌else◌}
use Rattle.relay_model.specs.declared.places.Place.{Place}
use Rattle.relay_model.specs.Places.{same_place}
use Rattle.desk_places.specs.declared.places.PlaceEntry.{PlaceEntry}
use Rattle.desk_places.specs.PlaceBases.{Leaves, OtherBases, SameBases}
use Rattle.desk_places.specs.PlaceTables.{SameStanding, SetsEntry, base_at, entry_at}
use Rattle.desk_places.proofs.PlaceLemmas.{same_place-same}

-- what keeps its standing stands on what it stood on
pub same_bases : (xs ys : List PlaceEntry) → SameStanding xs ys → SameBases (base_at xs) (base_at ys)
same_bases xs ys same p = same p

picked : (b : Bool) (x y : Option PlaceEntry) → b ≡ true → (if b then x else y) ≡ x
picked true x y e = refl
picked false x y e = absurd cc

passed : (b : Bool) (x y : Option PlaceEntry) → b ≡ false → (if b then x else y) ≡ y
passed true x y e = absurd cc
passed false x y e = refl

-- no other place is moved by an entry that is set
pub others_stay : (xs ys : List PlaceEntry) (place : Place) (slot : Option PlaceEntry) → SetsEntry place slot (entry_at xs) (entry_at ys) → OtherBases place (base_at xs) (base_at ys)
others_stay xs ys place slot sets p away = ap (option_map (λ s. s.base)) (sets p ∙ passed (same_place place p) slot (entry_at xs p) away)

-- a place that comes to stand on what its entry stands on
pub comes_here : (xs ys : List PlaceEntry) (s : PlaceEntry) → SetsEntry s.place (Some s) (entry_at xs) (entry_at ys) → base_at ys s.place ≡ Some s.base
comes_here xs ys s sets = ap (option_map (λ t. t.base)) (sets s.place ∙ picked (same_place s.place s.place) (Some s) (entry_at xs s.place) (same_place-same s.place))

-- the entry that was put is there
pub put_here : (xs ys : List PlaceEntry) (s : PlaceEntry) → SetsEntry s.place (Some s) (entry_at xs) (entry_at ys) → entry_at ys s.place ≡ Some s
put_here xs ys s sets = sets s.place ∙ picked (same_place s.place s.place) (Some s) (entry_at xs s.place) (same_place-same s.place)

-- a place that is taken out
pub leaves_here : (xs ys : List PlaceEntry) (place : Place) → SetsEntry place None (entry_at xs) (entry_at ys) → Leaves place (base_at xs) (base_at ys)
leaves_here xs ys place sets =
    (ap (option_map (λ s. s.base)) (sets place ∙ picked (same_place place place) None (entry_at xs place) (same_place-same place)), others_stay xs ys place None sets)
