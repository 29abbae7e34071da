-- What contracts see of a socket that waits for the lookup of its host.
use Rattle.std.specs.Prelude.{ℕ, Bool, List, Option}
use Rattle.port_trait.specs.{PortCounts}
use Rattle.socket_maker.specs.declared.aims.Aim.{Aim}

-- what is to be opened, the name that is looked up until that has come to its end, what was counted, and whether a begin
-- came
pub record LookingState : Type 0 where
  pub aim : Aim
  pub name : Option (List ℕ)
  pub counts : PortCounts
  pub begun : Bool
