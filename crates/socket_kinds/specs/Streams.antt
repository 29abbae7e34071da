-- What contracts see of a connection.
use Rattle.std.specs.Prelude.{Option}
use Rattle.std.specs.declared.net.socket_addr.SocketAddr.{SocketAddr}
use Rattle.socket_kinds.specs.declared.answering.Connection.{Connection}

-- the stream that it goes over, how it stands, and the address of its peer, where an accepting told that
pub record StreamState (S : Type 0) : Type 0 where
  pub stream : S
  pub connection : Connection
  pub from : Option SocketAddr
