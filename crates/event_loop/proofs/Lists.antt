-- Numbers in a list.
use Rattle.std.proofs.Common.{◌≡◌, ◌≢◌, refl, subst, ℕ, ◌⊎◌, inl, inr, List, [], ◌∷◌, ◌++◌, length}
use Rattle.event_loop.specs.Rows.{Has}

pub has_left : (s : ℕ) (xs ys : List ℕ) → Has s xs → Has s (xs ++ ys)
has_left s [] ys h = absurd h
has_left s (x ∷ xs) ys (inl e) = inl e
has_left s (x ∷ xs) ys (inr h) = inr (has_left s xs ys h)

pub has_last : (s : ℕ) (xs : List ℕ) → Has s (xs ++ s ∷ [])
has_last s [] = inl refl
has_last s (x ∷ xs) = inr (has_last s xs)

pub has_none : {P : Type 0} (s : ℕ) (xs : List ℕ) → xs ≡ [] → Has s xs → P
has_none s xs e h = let x : ⊥ = subst (Has s) e h in absurd x

pub has_rest : (s k : ℕ) (xs ys : List ℕ) → xs ≡ k ∷ ys → s ≢ k → Has s xs → Has s ys
has_rest s k xs ys e apart h = go (subst (Has s) e h)
  where
    go : (s ≡ k) ⊎ Has s ys → Has s ys
    go (inl f) = absurd (apart f)
    go (inr g) = g

pub nil_of : (xs : List ℕ) → length xs ≡ 0 → xs ≡ []
nil_of [] e = refl
nil_of (x ∷ xs) e = let y : ⊥ = cc in absurd y
