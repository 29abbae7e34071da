-- A sink in memory.
use Rattle.std.specs.Prelude.{ℕ, zero, suc, min, Bool, false}
use Rattle.port_trait.specs.{SinkTook}
use Rattle.port_trait.specs.declared.answers.SinkTook.TheVariants.{Took, Failed}
use Rattle.port_objects.specs.Intakes.{IntakeState, fresh_intake}

-- what contracts see of a sink in memory
pub record SinkState : Type 0 where
  pub intake : IntakeState
  pub faults : ℕ
  pub finished : Bool

-- a sink that was just made
abbrev pub fresh_sink : ℕ → SinkState
fresh_sink room = record { intake = fresh_intake room; faults = 0; finished = false }

-- what a write of so many bytes answers
abbrev pub scripted_sink : ℕ → ℕ → SinkTook
scripted_sink zero count = Failed
scripted_sink (suc room) count = Took (min count (suc room))
