-- What a journal and a list of askings hold. Lists of acts stand newest first throughout.
use Rattle.std.specs.Prelude.{ℕ, List}
use Rattle.relay_model.specs.declared.acts.Act.{Act}
use Rattle.relay_model.specs.declared.places.Place.{Place}
use Rattle.relay_model.specs.declared.commands.Single.{Single}

-- the acts of a journal, and how many more it has room for
pub record Story : Type 0 where
  pub acts : List Act
  pub spare : ℕ

-- a place or door, and the address that was to be opened or listened at there
abbrev pub Asking : Type 0
Asking = Place × Single

-- what was asked for, oldest first, and how many more pairs there is room for
pub record AskedFor : Type 0 where
  pub pairs : List Asking
  pub spare : ℕ

-- what a world tells of its history: its acts, newest first, and what it was asked to open, oldest first
pub record History : Type 0 where
  pub acts : List Act
  pub asked : List Asking
