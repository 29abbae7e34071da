-- Places that are the same are equal, and each place is the same as itself.
use Rattle.std.proofs.Common.{◌≡◌, true, arith}
use Rattle.std.proofs.lemmas.Grind.{common_steps}
use Rattle.relay_model.specs.declared.places.Place.{Place}
use Rattle.relay_model.specs.Places.{same_place}

pub same_place_equal : (p q : Place) → same_place p q ≡ true → p ≡ q
same_place_equal p q h = grind (arith, common_steps)

pub same_place_self : (p : Place) → same_place p p ≡ true
same_place_self p = grind (arith, common_steps)
