-- What a list of ready halves holds, and what a turn names.
use Rattle.std.specs.Prelude.{ℕ, Bool, false, ◌&&◌, ◌||◌, List, [], ◌∷◌}
use Rattle.relay_model.specs.declared.places.Half.{Half}
use Rattle.relay_model.specs.declared.places.Place.{Place}
use Rattle.relay_model.specs.declared.readiness.ReadyAt.{ReadyAt}
use Rattle.relay_model.specs.Places.{same_place, same_half}

-- the entries of a list, and the number of entries that it was given room for
pub record ListOf (T : Type 0) : Type 0 where
  pub entries : List T
  pub room : ℕ

-- the halves of places that a turn names
abbrev pub Listed : Type 0
Listed = ListOf ReadyAt

-- a list that was just made
abbrev pub fresh_list : {T : Type 0} → ListOf T
fresh_list = record { entries = []; room = 256 }

-- a copy has room for its entries alone
abbrev pub copied_list : {T : Type 0} → ListOf T → ListOf T
copied_list list = record { entries = list.entries; room = 0 }

-- whether the entries name this half of the place
abbrev pub names : List ReadyAt → Place → Half → Bool
names [] p half = false
names (e ∷ entries) p half = same_place e.place p && same_half e.half half || names entries p half
