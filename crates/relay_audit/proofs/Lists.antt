-- How std compares lists, and the definitions.
use Rattle.std.proofs.Common.{◌≡◌, refl, ap, ℕ, ◌&&◌, ◌==◌, List, [], ◌∷◌}
use Rattle.std.specs.List.{starts_with}
use lib.Pointwise.{pointwise}
use Rattle.relay_model.specs.Audit.{same_list, begins}

pub equal_as_same : (one other : List ℕ) → pointwise (λ x y. x == y) one other ≡ same_list one other
equal_as_same [] [] = refl
equal_as_same [] (y ∷ ys) = refl
equal_as_same (x ∷ xs) [] = refl
equal_as_same (x ∷ xs) (y ∷ ys) = ap (λ b. (x == y) && b) (equal_as_same xs ys)

pub starts_as_begins : (first list : List ℕ) → starts_with (λ x y. x == y) list first ≡ begins first list
starts_as_begins [] list = refl
starts_as_begins (x ∷ xs) [] = refl
starts_as_begins (x ∷ xs) (y ∷ ys) = ap (λ b. (x == y) && b) (starts_as_begins xs ys)
