-- What is found of a written history.
use Rattle.std.specs.Prelude.{◌≡◌, ℕ, suc, List, ◌∷◌, ◌++◌, length}
use Rattle.relay_model.specs.{Config, Act, held_count}
use Rattle.relay_model.specs.May.{May, Legal}
use Rattle.relay_audit.specs.declared.judging.Judgement.{Judgement}
use Rattle.relay_audit.specs.declared.judging.Judgement.TheVariants as found

-- the act at this place, counted from 1 from the oldest on, may not come after the acts before it, which are legal
pub record IsFirstIllegal (c : Config) (n : ℕ) (history : List Act) (place : ℕ) : Type 0 where
  pub later : List Act
  pub act : Act
  pub past : List Act
  pub whole : history ≡ later ++ act ∷ past
  pub before : Legal c n past
  pub breaks : ¬ (May c n past act)
  pub counted : place ≡ suc (length past)

-- the whole history is legal, or one act is the first that isn't
abbrev pub Judges : Config → ℕ → List Act → Judgement → Type 0
Judges c n history (found.Legal held) = Legal c n history × (held ≡ held_count c history)
Judges c n history (found.Illegal act) = IsFirstIllegal c n history act
