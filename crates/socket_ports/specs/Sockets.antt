-- What contracts see of the port over a socket.
use Rattle.std.specs.Prelude.{Bool, false}
use Rattle.port_trait.specs.{PortCounts}

-- counts that stand at their beginning
abbrev pub no_counts : PortCounts
no_counts = record { faults = 0; ends = 0; empties = 0; stalls = 0 }

-- the socket, what was counted, whether a begin came, and whether the last read answered the end
pub record SocketPortState (S : Type 0) : Type 0 where
  pub socket : S
  pub counts : PortCounts
  pub begun : Bool
  pub ended : Bool

-- a port that was just made over a socket
abbrev pub fresh_port : {S : Type 0} → S → SocketPortState S
fresh_port socket = record { socket = socket; counts = no_counts; begun = false; ended = false }
