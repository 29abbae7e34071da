-- What contracts see of any socket.
use Rattle.std.specs.Prelude.{◌≡◌, Bool, true, false, Option, None, Some, Result, Ok, Err}
use Rattle.std.specs.declared.io.Error.{Error}
use Rattle.std.specs.declared.net.socket_addr.SocketAddr.{SocketAddr}
use Rattle.mio.specs.declared.net.listener.TcpListener.{TcpListener}
use Rattle.mio.specs.declared.net.stream.TcpStream.{TcpStream}
use Rattle.port_trait.specs.{no_hint, Hint, MadePeer}
use Rattle.port_trait.specs.declared.makers.MadePeer.TheVariants as made
use Rattle.socket_kinds.specs.Datagrams.{DatagramState, datagram_hint}
use Rattle.socket_kinds.specs.Doors.{DoorState, IsRefusal, LetsNobodyIn, ToldAt, door_hint, is_unix}
use Rattle.socket_kinds.specs.declared.door.Listener.{Listener}
use Rattle.socket_kinds.specs.declared.door.Listener.TheVariants as listeners
use Rattle.socket_kinds.specs.Streams.{StreamState}
use Rattle.socket_kinds.specs.declared.enrolled.EnrolledUdp.{EnrolledUdp}
use Rattle.socket_kinds.specs.declared.stream.SocketStream.{SocketStream}
use Rattle.relay_model.specs.{Peer}
use Rattle.relay_model.specs.declared.acts.Peer.TheVariants as peers
use Rattle.socket_kinds.specs.Peers.{IsPeer}
use Rattle.socket_kinds.specs.declared.packet.Partner.{Partner}
use Rattle.socket_kinds.specs.declared.packet.Partner.TheVariants as partners
use Rattle.socket_kinds.specs.declared.any_socket.AnySocket.{AnySocket}
use Rattle.socket_kinds.specs.declared.any_socket.AnySocket.TheVariants as sockets

-- the sockets that go over the system's own, whose TCP doors listen at this
abbrev pub SocketAt : Type 0 → Type 0
SocketAt T = AnySocket (StreamState SocketStream) (DatagramState EnrolledUdp) (DoorState T)

-- all of them the system's own
abbrev pub SystemSocket : Type 0
SystemSocket = SocketAt TcpListener

-- what the socket tells, by its sort
abbrev pub told_by : {S D L T : Type 0} → (S → T) → (D → T) → (L → T) → AnySocket S D L → T
told_by stream datagrams listening (sockets.Stream socket) = stream socket
told_by stream datagrams listening (sockets.Datagrams socket) = datagrams socket
told_by stream datagrams listening (sockets.Door door) = listening door

-- what is said of a socket before and after a call, which stays of its sort
abbrev pub SameSort : {S D L : Type 0} → (S → S → Type 0) → (D → D → Type 0) → (L → L → Type 0) → AnySocket S D L → AnySocket S D L → Type 0
SameSort stream datagrams door (sockets.Stream before) (sockets.Stream now) = stream before now
SameSort stream datagrams door (sockets.Datagrams before) (sockets.Datagrams now) = datagrams before now
SameSort stream datagrams door (sockets.Door before) (sockets.Door now) = door before now
SameSort stream datagrams door _ _ = ⊥

-- what it knows of its readiness by itself: a stream knows nothing
abbrev pub hint_of : SystemSocket → Hint
hint_of socket = told_by (λ _. no_hint) datagram_hint door_hint socket

-- the socket is a door
abbrev pub is_door : {S D L : Type 0} → AnySocket S D L → Bool
is_door (sockets.Stream socket) = false
is_door (sockets.Datagrams socket) = false
is_door (sockets.Door door) = true

-- a connection, a partner of datagrams or a door
pub data Sort : Type 0 where
  Connected : Sort
  Packets : Sort
  Listening : Sort

-- what a socket is: a connection, datagrams or a door
abbrev pub sort_of : {S D L : Type 0} → AnySocket S D L → Sort
sort_of (sockets.Stream socket) = Connected
sort_of (sockets.Datagrams socket) = Packets
sort_of (sockets.Door door) = Listening

-- a door at which peers may wait that the system won't tell of again
abbrev pub has_left_off : {T : Type 0} → SocketAt T → Bool
has_left_off (sockets.Stream socket) = false
has_left_off (sockets.Datagrams socket) = false
has_left_off (sockets.Door door) = door.cut_short

-- a door to which those come that have no address
abbrev pub is_unix_door : {T : Type 0} → SocketAt T → Bool
is_unix_door (sockets.Stream socket) = false
is_unix_door (sockets.Datagrams socket) = false
is_unix_door (sockets.Door door) = is_unix door.listener

-- the peer has the address that the datagrams go to
abbrev pub IsPartner : Partner → Peer → Type 0
IsPartner partners.Connected peer = ⊥
IsPartner (partners.At addr) peer = IsPeer addr peer
IsPartner partners.Anyone peer = ⊥

-- the peer has the address that was told, and one of which none was told is local
abbrev pub IsToldPeer : Option SocketAddr → Peer → Type 0
IsToldPeer None peer = peer ≡ peers.Local
IsToldPeer (Some addr) peer = IsPeer addr peer

-- a connection that came with this peer is one of the address that was told with it; the datagrams of a socket that did go
-- to the peer, and come from nobody else
abbrev pub HasPartner : {T : Type 0} → SocketAt T → Peer → Type 0
HasPartner (sockets.Stream socket) peer = IsToldPeer socket.from peer
HasPartner (sockets.Datagrams socket) peer = IsPartner socket.partner peer
HasPartner (sockets.Door door) peer = ⊥

-- it has datagrams
abbrev pub IsOfPackets : {S D L : Type 0} → AnySocket S D L → Type 0
IsOfPackets (sockets.Stream socket) = ⊥
IsOfPackets (sockets.Datagrams socket) = Unit {0}
IsOfPackets (sockets.Door door) = ⊥

-- it is a connection with this address
abbrev pub IsConnectedFrom : {T : Type 0} → Option SocketAddr → SocketAt T → Type 0
IsConnectedFrom from (sockets.Stream socket) = socket.from ≡ from
IsConnectedFrom from (sockets.Datagrams socket) = ⊥
IsConnectedFrom from (sockets.Door door) = ⊥

-- what comes at a TCP listener is a connection with the address that one of its acceptings tells, at a Unix one a
-- connection without an address, and at one of datagrams these
abbrev pub ComesTo : {T : Type 0} → (T → Result (TcpStream × SocketAddr) Error → Type 0) → Listener T → SocketAt T → Type 0
ComesTo comes (listeners.Tcp listener) socket = (accepted : TcpStream) × (addr : SocketAddr) × comes listener (Ok (accepted, addr)) × IsConnectedFrom (Some addr) socket
ComesTo comes (listeners.Unix listener) socket = IsConnectedFrom None socket
ComesTo comes (listeners.Udp enrolled) socket = IsOfPackets socket
ComesTo comes (listeners.Packets enrolled) socket = IsOfPackets socket

-- the same of a door
abbrev pub ComesToDoor : {T : Type 0} → (T → Result (TcpStream × SocketAddr) Error → Type 0) → SocketAt T → SocketAt T → Type 0
ComesToDoor comes (sockets.Stream before) socket = ⊥
ComesToDoor comes (sockets.Datagrams before) socket = ⊥
ComesToDoor comes (sockets.Door door) socket = ComesTo comes door.listener socket

-- what one accepting at a TCP door was told; nothing is known of another socket
abbrev pub ToldAtDoor : {T : Type 0} → (T → Result (TcpStream × SocketAddr) Error → Type 0) → SocketAt T → (Result (TcpStream × SocketAddr) Error → Type 0) → Type 0
ToldAtDoor comes (sockets.Stream before) P = Unit {0}
ToldAtDoor comes (sockets.Datagrams before) P = Unit {0}
ToldAtDoor comes (sockets.Door door) P = ToldAt comes door.listener P

-- no peer stands where the system refused, and where it told a connection that could not be enrolled
abbrev pub FailsToStand : Result (TcpStream × SocketAddr) Error → Type 0
FailsToStand (Ok pair) = Unit {0}
FailsToStand (Err error) = IsRefusal error

-- what a door answers, which may have left off, by what one accepting was told; at a TCP door memory never lacks
abbrev pub AcceptsAt : {T P : Type 0} → (T → Result (TcpStream × SocketAddr) Error → Type 0) → SocketAt T → Bool → (P → SocketAt T) → MadePeer P → Type 0
AcceptsAt comes door left socket_of (made.Came port peer) = ComesToDoor comes door (socket_of port)
AcceptsAt comes door left socket_of made.NoPeer = ToldAtDoor comes door (LetsNobodyIn left)
AcceptsAt comes door left socket_of made.Failed = ToldAtDoor comes door FailsToStand
AcceptsAt comes door left socket_of made.Memory = ToldAtDoor comes door (λ told. ⊥)
