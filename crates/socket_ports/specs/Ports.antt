-- What contracts see of a port over a shared socket.
use Rattle.std.specs.Prelude.{Bool, false, Option}
use Rattle.relay_model.specs.{Peer}
use Rattle.port_trait.specs.{Hint, PortCounts}

-- what was counted, whether a begin came, whether the last read answered the end, whether the last write found no room,
-- and the peer that was told with the port; a door has none
pub record PeerState : Type 0 where
  pub counts : PortCounts
  pub begun : Bool
  pub ended : Bool
  pub blocked : Bool
  pub peer : Option Peer

-- a port that was just made, with this peer
abbrev pub fresh_peer_port : Option Peer → PeerState
fresh_peer_port peer = record { counts = record { faults = 0; ends = 0; empties = 0; stalls = 0 }; begun = false; ended = false; blocked = false; peer = peer }

-- it hints at room alone, and only where a write found none
abbrev pub blocked_hint : PeerState → Hint
blocked_hint port = record { readable = false; writable = port.blocked }
