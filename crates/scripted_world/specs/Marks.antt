-- Moments of stops, places whose shuts fail, and the least of some moments.
use Rattle.std.specs.Prelude.{ℕ, Bool, nat_le, List, [], ◌∷◌, Option, None, Some}
use Rattle.std.specs.List.{list_any}
use Rattle.relay_model.specs.{Place, same_place, earlier}

-- whether one of these moments isn't later than now
abbrev pub has_come : List ℕ → ℕ → Bool
has_come moments now = list_any (λ moment. nat_le moment now) moments

-- the least of the moments that these have
abbrev pub least_by : {X : Type 0} → (X → Option ℕ) → List X → Option ℕ
least_by moment [] = None
least_by moment (x ∷ xs) = earlier (moment x) (least_by moment xs)

-- the least of these moments
abbrev pub least_of : List ℕ → Option ℕ
least_of moments = least_by (λ moment. Some moment) moments

-- whether the place is one of those whose shuts fail
abbrev pub shut_fails : List Place → Place → Bool
shut_fails places p = list_any (λ place. same_place place p) places
