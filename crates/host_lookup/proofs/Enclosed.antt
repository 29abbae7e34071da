-- Texts that don't stand in brackets.
use Rattle.std.proofs.Common.{◌≡◌, ◌≢◌, ℕ, List, [], ◌∷◌, ◌++◌, ◌⊎◌, inr, refl, sym, ap, ◌∙◌, drop}
use Rattle.host_lookup.specs.Hosts.{IsBare}

-- one that doesn't begin with a bracket
pub unopened : (host : List ℕ) → ((rest : List ℕ) → host ≢ 91 ∷ rest) → IsBare host host
unopened host none = inr (refl, λ inner e. none (inner ++ 93 ∷ []) e)

-- one whose bracket isn't closed at the end
pub unclosed : (host inner : List ℕ) → host ≡ 91 ∷ inner → ((front : List ℕ) → inner ≢ front ++ 93 ∷ []) → IsBare host host
unclosed host inner begins none = inr (refl, λ other e. none other (ap (λ text. drop 1 text) (sym begins ∙ e)))
