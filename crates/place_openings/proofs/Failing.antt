-- The moments of failures, with one more.
use Rattle.std.proofs.Common.{◌≡◌, ℕ, Bool, true, false, List, [], ◌∷◌, Some, refl}
use Rattle.relay_model.specs.Choices.{noted}
use Rattle.retry_plan.specs.Plans.{last_of}

pub noted_here : (b : Bool) (x y : ℕ) (xs : List ℕ) → b ≡ true → x ≡ y → noted b y xs ≡ x ∷ xs
noted_here true x y xs here same = cc
noted_here false x y xs here same = cc

pub last_here : (b : Bool) (x : ℕ) (xs : List ℕ) → b ≡ true → last_of (noted b x xs) ≡ Some x
last_here true x xs here = refl
last_here false x xs here = cc

pub none_elsewhere : (b : Bool) (x : ℕ) (xs : List ℕ) → b ≡ false → xs ≡ [] → noted b x xs ≡ []
none_elsewhere true x xs apart none = cc
none_elsewhere false x xs apart none = none
