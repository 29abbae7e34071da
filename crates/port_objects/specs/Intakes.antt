-- What an object in memory took, and how many more bytes fit.
use Rattle.std.specs.Prelude.{ℕ, ◌-◌, List, [], ◌++◌, length}

-- what contracts see of a store: its bytes and its room
pub record IntakeState : Type 0 where
  pub bytes : List ℕ
  pub room : ℕ

-- an empty store
abbrev pub fresh_intake : ℕ → IntakeState
fresh_intake room = record { bytes = []; room = room }

-- a store with these bytes more
abbrev pub filled : IntakeState → List ℕ → IntakeState
filled intake bytes = record { bytes = intake.bytes ++ bytes; room = intake.room - length bytes }
