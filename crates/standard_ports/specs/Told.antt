-- What contracts see of a socket with an account.
use Rattle.std.specs.Prelude.{List, Option, None, Some}
use Rattle.port_trait.specs.{Passage, none_passed}

-- the socket, and what passed it by the account
pub record ToldState (S : Type 0) : Type 0 where
  pub socket : S
  pub passed : Passage

-- a socket with an account that was just begun
abbrev pub fresh_told : {S : Type 0} → S → ToldState S
fresh_told socket = record { socket = socket; passed = none_passed }

-- the list that is told, and the one of the account where none is
abbrev pub told_or : {T : Type 0} → Option (List T) → List T → Option (List T)
told_or None own = Some own
told_or (Some all) own = Some all
