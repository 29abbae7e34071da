-- What is removed with a port.
use Rattle.std.specs.Prelude.{◌≡◌, ℕ, Bool, List, Option, is_some, IfSome}

-- the entry of this name, only where that is wanted
pub record IsRemoval (wanted : Bool) (name : List ℕ) (removal : Option (List ℕ)) : Type 0 where
  pub only : is_some removal ≡ wanted
  pub named : IfSome removal (λ entry. entry ≡ name)
