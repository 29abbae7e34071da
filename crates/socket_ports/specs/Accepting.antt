-- The port of a peer that was accepted.
use Rattle.std.specs.Prelude.{◌≡◌, false}
use Rattle.socket_ports.specs.Sockets.{SocketPortState, no_counts}

-- nothing was asked of the port yet
pub record IsFreshPort {S : Type 0} (port : SocketPortState S) : Type 0 where
  pub counts : port.counts ≡ no_counts
  pub begun : port.begun ≡ false
  pub ended : port.ended ≡ false
