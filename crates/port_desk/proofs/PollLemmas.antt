-- Of what hinted one is named again.
use Rattle.std.proofs.Common.{◌≡◌, subst, false, List, [], ◌∷◌, Some, slice_get}
use Rattle.relay_model.specs.declared.places.Place.{Place}
use Rattle.relay_model.specs.declared.readiness.ReadyAt.{ReadyAt}
use Rattle.relay_model.specs.Holding.{Hold, is_free}
use Rattle.world_trait.specs.Answers.{NamesHeld}

-- the first entry of a list that names only what is held
pub first_held : (hold : Place → Hold) (entries : List ReadyAt) (e : ReadyAt) → NamesHeld hold entries → slice_get entries 0 ≡ Some e → is_free (hold e.place) ≡ false
first_held hold [] e held first = absurd cc
first_held hold (x ∷ xs) e held first = let same : x ≡ e = cc in subst (λ (it : ReadyAt). is_free (hold it.place) ≡ false) same held.0
