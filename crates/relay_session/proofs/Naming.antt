-- What the halves that a turn names make of a state, one after another.
use Rattle.std.proofs.Common.{◌≡◌, ◌+◌, ◌∙◌, ℕ, false, true, List, [], ◌∷◌, ◌++◌, Option, Some, take, slice_get, ap}
use Rattle.std.proofs.lemmas.List.{take_more}
use Rattle.std.proofs.lemmas.Option.{slice_get_within, get_or_from_slice_get}
use Rattle.relay_model.specs.declared.places.Place.{Place}
use Rattle.relay_model.specs.declared.readiness.ReadyAt.{ReadyAt}
use Rattle.relay_model.specs.declared.commands.Config.{Config}
use Rattle.relay_model.specs.declared.acts.Act.{Act}
use Rattle.relay_model.specs.declared.acts.Act.TheVariants as acts
use Rattle.place_openings.specs.{AreOpenings, has_asked}
use Rattle.session_direction.specs.Directions.{listed}
use Rattle.relay_session.specs.Lanes.{AreLanes}
use Rattle.relay_session.specs.declared.states.State.{State}

-- the places and the directions have heard these halves of the last turn, and the rest is as it was
pub record HasNamed (names : List ReadyAt) (old new : State) : Type 0 where
  pub openings : (c : Config) (past : List Act) (s : ℕ) (until : Option ℕ) (at : ℕ) → AreOpenings c (acts.Turn until at (listed []) false ∷ past) s old.openings → AreOpenings c (acts.Turn until at (listed names) false ∷ past) s new.openings
  pub lanes : (c : Config) (past : List Act) (s : ℕ) (until : Option ℕ) (at : ℕ) → AreLanes c (acts.Turn until at (listed []) false ∷ past) s old.lanes → AreLanes c (acts.Turn until at (listed names) false ∷ past) s new.lanes
  pub asked : (p : Place) → has_asked new.openings p ≡ true → has_asked old.openings p ≡ true
  pub clock_same : new.clock ≡ old.clock
  pub moved_same : new.moved ≡ old.moved
  pub faulted_same : new.faulted ≡ old.faulted
  pub closing_same : new.closing ≡ old.closing
  pub idle_same : new.idle ≡ old.idle
  pub sloppy_same : new.sloppy ≡ old.sloppy

pub take_next : {A : Type 0} (xs : List A) (i : ℕ) (x : A) → slice_get xs i ≡ Some x → take (i + 1) xs ≡ take i xs ++ x ∷ []
take_next xs i x e = take_more xs i x (slice_get_within xs i x e) ∙ ap (λ y. take i xs ++ y ∷ []) (get_or_from_slice_get xs i x x e)
