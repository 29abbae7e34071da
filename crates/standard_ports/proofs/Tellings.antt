-- What a call adds to a list that is told, or else to that of the account.
use Rattle.std.proofs.Common.{◌≡◌, ℕ, List, [], ◌∷◌, ◌++◌, Option, None, Some, refl, sym, subst}
use Rattle.relay_model.specs.declared.acts.Shut.{Shut}
use Rattle.port_trait.specs.Meanings.{Adds, noted}
use Rattle.standard_ports.specs.Told.{told_or}

-- bytes
pub adds : (before now : Option (List ℕ)) (own bytes : List ℕ) → Adds before now bytes → Adds (told_or before own) (told_or now (own ++ bytes)) bytes
adds None now own bytes e = subst (λ (slot : Option (List ℕ)). told_or slot (own ++ bytes) ≡ Some (own ++ bytes)) (sym e) refl
adds (Some all) now own bytes e = subst (λ (slot : Option (List ℕ)). told_or slot (own ++ bytes) ≡ Some (all ++ bytes)) (sym e) refl

-- the way of a shut
pub notes : (how : Shut) (before now : Option (List Shut)) (own : List Shut) → now ≡ noted how before → told_or now (own ++ how ∷ []) ≡ noted how (told_or before own)
notes how None now own e = subst (λ (slot : Option (List Shut)). told_or slot (own ++ how ∷ []) ≡ Some (own ++ how ∷ [])) (sym e) refl
notes how (Some all) now own e = subst (λ (slot : Option (List Shut)). told_or slot (own ++ how ∷ []) ≡ Some (all ++ how ∷ [])) (sym e) refl
