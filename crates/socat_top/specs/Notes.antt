-- What a run says on standard error at its end.
use Rattle.std.specs.Prelude.{◌≡◌, ◌≤◌, ℕ, ◌⊎◌, List, [], ◌∷◌, Option, option_map, is_some}
use Rattle.relay_model.specs.{Place}
use Rattle.relay_model.specs.declared.acts.Act.TheVariants.{Note, NoteFault}
use Rattle.relay_model.specs.Journals.{History}
use Rattle.world_trait.specs.{with_act}
use Rattle.world_trait.specs.Seen.{Seen}
use Rattle.exit_status.specs.{Outcome, line}
use Rattle.exit_status.specs.declared.outcomes.Outcome.TheVariants as outcomes

-- one note of the text, which was taken or failed
abbrev pub Noted : List ℕ → Option History → Option History → Type 0
Noted text told told' = (told' ≡ option_map (with_act (Note text)) told) ⊎ (told' ≡ option_map (with_act (NoteFault text)) told)

-- nothing, where there is nothing to say
abbrev pub Said : List ℕ → Option History → Option History → Type 0
Said [] told told' = told' ≡ told
Said (b ∷ text) told told' = Noted (b ∷ text) told told'

-- the line of the answer, where it has one; want of memory may leave it out
abbrev pub Tail : Outcome → Option History → Option History → Type 0
Tail answer told told' = Said (line answer) told told' ⊎ ((answer ≡ outcomes.Memory) × (told' ≡ told))

-- no more was done than to note: what is held stays so, and nothing was waited for
pub record OnlyNotes (old new : Seen) : Type 0 where
  pub held : (p : Place) → new.held p ≡ old.held p
  pub faults : old.faults ≤ new.faults
  pub waits : new.waits ≡ old.waits
  pub stops : old.stops ≤ new.stops
  pub tells : is_some new.told ≡ is_some old.told
