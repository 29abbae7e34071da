-- What contracts see of the port of a socket, also while its host is looked up.
use Rattle.std.specs.Prelude.{◌≡◌, ◌≢◌, ℕ, Bool, true, false, List, Option, None, Some, IsSomeAnd}
use Rattle.port_trait.specs.{all_hints, Hint, PortCounts, Making}
use Rattle.port_trait.specs.declared.makers.Making.TheVariants as makings
use Rattle.relay_model.specs.{Peer}
use Rattle.socket_kinds.specs.{Sort, HasPartner, hint_of, is_door, is_unix_door, has_left_off, sort_of, SystemSocket}
use Rattle.socket_ports.specs.{IsFreshPort as IsFreshSocket, SocketPortState, no_counts}
use Rattle.host_lookup.specs.{IsNameOf}
use Rattle.socket_maker.specs.Aims.{way_sort}
use Rattle.socket_maker.specs.Looking.{LookingState}
use Rattle.socket_maker.specs.declared.aims.Aim.{Aim}
use Rattle.socket_maker.specs.declared.port.HostPort.{HostPort}
use Rattle.socket_maker.specs.declared.port.HostPort.TheVariants as ports

-- what the port that it is tells
abbrev pub of_port : {T : Type 0} → (LookingState → T) → (SocketPortState SystemSocket → T) → HostPort → T
of_port looking socket (ports.Looking port) = looking port
of_port looking socket (ports.Socket port) = socket port

-- what was counted, whether a begin came, and whether the last read answered the end
abbrev pub counts_at : HostPort → PortCounts
counts_at port = of_port (λ looking. looking.counts) (λ socket. socket.counts) port

-- whether a begin came
abbrev pub begun_at : HostPort → Bool
begun_at port = of_port (λ looking. looking.begun) (λ socket. socket.begun) port

-- whether the last read answered the end
abbrev pub ended_at : HostPort → Bool
ended_at port = of_port (λ looking. false) (λ socket. socket.ended) port

-- the sort of the socket, which is to be opened or stands
abbrev pub sort_at : HostPort → Sort
sort_at port = of_port (λ looking. way_sort looking.aim.way) (λ socket. sort_of socket.socket) port

-- whether its host is looked up
abbrev pub is_looking : HostPort → Bool
is_looking port = of_port (λ looking. true) (λ socket. false) port

-- whether it is a door, and one of sockets of Unix
abbrev pub is_door_port : HostPort → Bool
is_door_port port = of_port (λ looking. false) (λ socket. is_door socket.socket) port

-- whether it is a door of sockets of Unix
abbrev pub is_unix_door_port : HostPort → Bool
is_unix_door_port port = of_port (λ looking. false) (λ socket. is_unix_door socket.socket) port

-- a door at which peers may wait that the system won't tell of again
abbrev pub has_left_off_at : HostPort → Bool
has_left_off_at port = of_port (λ looking. false) (λ socket. has_left_off socket.socket) port

-- it is the port of what came with this peer
abbrev pub HasPartnerAt : HostPort → Peer → Type 0
HasPartnerAt (ports.Looking port) peer = ⊥
HasPartnerAt (ports.Socket port) peer = HasPartner port.socket peer

-- what it hints by itself; the end of a lookup is told by its thread
abbrev pub hints_at : HostPort → Option Hint
hints_at port = of_port (λ looking. None) (λ socket. Some (hint_of socket.socket)) port

-- the halves that it may hint at
abbrev pub may_hint_at : HostPort → Hint
may_hint_at port = of_port (λ looking. all_hints) (λ socket. hint_of socket.socket) port

-- nothing was asked of it yet
abbrev pub IsFreshPort : HostPort → Type 0
IsFreshPort (ports.Looking port) = (port.counts ≡ no_counts) × (port.begun ≡ false)
IsFreshPort (ports.Socket port) = IsFreshSocket port

-- what a socket is opened for: one whose host is still looked up, which is a name, opens nothing else later, and it is this
-- name that is looked up
abbrev pub Aims : Aim → List ℕ → HostPort → Type 0
Aims aim host (ports.Looking port) = (port.aim ≡ aim) × IsSomeAnd port.name (λ name. IsNameOf host name)
Aims aim host (ports.Socket port) = sort_of port.socket ≡ way_sort aim.way

-- what came of what was looked up
abbrev pub Follows : HostPort → HostPort → Type 0
Follows (ports.Looking before) now = sort_at now ≡ way_sort before.aim.way
Follows (ports.Socket before) now = is_looking now ≡ false

-- the sort of the socket whose port was made
abbrev pub port_sort : Making HostPort → Option Sort
port_sort (makings.Made port) = Some (sort_at port)
port_sort (makings.Later port) = Some (sort_at port)
port_sort makings.Failed = None
port_sort makings.Memory = None
