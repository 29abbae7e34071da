-- What contracts see of a SOCKS server that is asked once the host is looked up.
use Rattle.std.specs.Prelude.{ℕ, List}

-- the port to the server, the name that is looked up, and the port and the user of the request
pub record AskedState (P : Type 0) : Type 0 where
  pub inner : P
  pub name : List ℕ
  pub port : ℕ
  pub user : List ℕ
