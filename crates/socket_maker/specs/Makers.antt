-- What contracts see of the maker of sockets.
use Rattle.std.specs.Prelude.{ℕ, Bool, Option, None, if◌then◌else◌}
use Rattle.relay_model.specs.{Peer}
use Rattle.port_trait.specs.{risen, MakerSeen}

-- its counts, and the peer that it accepted last
pub record SocketMakerState : Type 0 where
  pub faults : ℕ
  pub stalls : ℕ
  pub came : Option Peer

-- what is seen of it as of any maker; what it was asked for it doesn't tell
abbrev pub seen_of : SocketMakerState → MakerSeen
seen_of maker = record { faults = maker.faults; stalls = maker.stalls; came = maker.came; asked = None }

-- one more where this has happened
abbrev pub risen_if : Bool → ℕ → ℕ
risen_if happened count = if happened then risen count else count
