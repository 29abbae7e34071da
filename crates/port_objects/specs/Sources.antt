-- A source in memory: what it has left, and whether it ends or fails after that.
use Rattle.std.specs.Prelude.{ℕ, min, Bool, true, false, List, [], ◌∷◌, length}
use Rattle.port_trait.specs.{SourceGot}
use Rattle.port_trait.specs.declared.answers.SourceGot.TheVariants.{Bytes, End, Failed}

-- what contracts see of a source in memory
pub record SourceState : Type 0 where
  pub left : List ℕ
  pub ends_well : Bool
  pub faults : ℕ
  pub ends : ℕ

-- a source that was just made
abbrev pub fresh_source : List ℕ → Bool → SourceState
fresh_source bytes ends_well = record { left = bytes; ends_well = ends_well; faults = 0; ends = 0 }

-- what a read with so much room answers
abbrev pub scripted_source : List ℕ → Bool → ℕ → SourceGot
scripted_source [] true room = End
scripted_source [] false room = Failed
scripted_source (b ∷ bs) ends_well room = Bytes (min (length (b ∷ bs)) room)
