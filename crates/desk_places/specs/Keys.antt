-- What contracts see of a set of keys.
use Rattle.std.specs.Prelude.{◌≡◌, ◌==◌, ◌||◌, ℕ, Bool, false, List, [], ◌∷◌, length, slice_get, Some}

-- the keys of the set, and how many it covers: each that is below that number can be put in
pub record KeyTable : Type 0 where
  pub keys : List ℕ
  pub covered : ℕ

-- whether the key is one of these
abbrev pub is_in : ℕ → List ℕ → Bool
is_in key [] = false
is_in key (k ∷ ks) = k == key || is_in key ks

-- each list tells where a number stands in the other
pub record AreInverse (order places : List ℕ) : Type 0 where
  pub there : (i k : ℕ) → slice_get order i ≡ Some k → slice_get places k ≡ Some i
  pub back : (i k : ℕ) → slice_get places k ≡ Some i → slice_get order i ≡ Some k
  pub same_length : length places ≡ length order
