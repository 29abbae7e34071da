use Rattle.std.proofs.Common.{◌≡◌, [], false, take, length}
use Rattle.relay_model.specs.declared.places.Place.{Place}
use Rattle.place_openings.specs.Stands.{Each}
use Rattle.place_openings.specs.Steps.{has_asked}
use Rattle.place_openings.proofs.session_openings.of_places.Given as goal

abbrev pub invariant-loop-place : goal.invariant-loop-place
invariant-loop-place l = Each l.config [] (take l.place-index l.places) l.openings × (length l.openings ≡ l.place-index) × ((p : Place) → has_asked l.openings p ≡ false)
