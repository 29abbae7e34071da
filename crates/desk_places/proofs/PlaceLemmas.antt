-- When two places are the same.
use Rattle.std.proofs.Common.{◌≡◌, ◌<◌, Bool, true, false, refl, ap, arith}
use Rattle.std.proofs.lemmas.Grind.{common_steps}
use Rattle.relay_model.specs.declared.places.Place.{Place}
use Rattle.relay_model.specs.Places.{same_place}

pub same_place-eq : (p q : Place) → same_place p q ≡ true → p ≡ q
same_place-eq p q same = grind (arith, common_steps)

pub same_place-same : (p : Place) → same_place p p ≡ true
same_place-same p = grind (arith, common_steps)

pub false_unless : (b : Bool) → (b ≡ true → ⊥) → b ≡ false
false_unless true h = absurd (h refl)
false_unless false h = refl

-- places that differ from one another are not both p
pub apart : (x q p : Place) → same_place x q ≡ false → same_place x p ≡ true → same_place q p ≡ false
apart x q p other same =
    false_unless (same_place q p) (λ h. let e : same_place x q ≡ same_place x p = ap (same_place x) (same_place-eq q p h) in cc (other, e, same))

-- places of different sessions differ
pub earlier_apart : (p q : Place) → p.session < q.session → same_place p q ≡ false
earlier_apart p q below =
    false_unless (same_place p q) (λ h. omega (arith, below, ap (λ (x : Place). x.session) (same_place-eq p q h)))
