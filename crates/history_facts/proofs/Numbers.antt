-- Places have the same number where they are the same.
use Rattle.std.proofs.Common.{◌≡◌, ℕ, ◌==◌, true, false, arith}
use Rattle.std.proofs.lemmas.Grind.{common_steps}
use Rattle.relay_model.specs.declared.places.Place.{Place}
use Rattle.relay_model.specs.Places.{same_place}
use Rattle.history_facts.specs.Tables.{place_number}

pub same_number : (p q : Place) → (place_number p == place_number q) ≡ same_place p q
same_number p q = grind (arith, common_steps)
