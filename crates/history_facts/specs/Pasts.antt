-- How the code sees a list of acts.
use Rattle.std.specs.Prelude.{List, map}
use Rattle.std.specs.Borrow.{Bor}
use Rattle.relay_model.specs.{Config, Act}

-- the acts that a slice of references shows
abbrev pub acts : List (Bor Act) → List Act
acts past = map (λ act. act.now) past

-- a command, and the acts of a run of it, newest first
pub record Chronicle : Type 0 where
  pub config : Config
  pub acts : List Act

-- what contracts see of a command and its acts
abbrev pub seen : Config → List (Bor Act) → Chronicle
seen c past = record { config = c; acts = acts past }
