-- What contracts see of a door and of what comes at it.
use Rattle.std.specs.Prelude.{◌≡◌, ◌≢◌, Bool, true, false, Option, None, Some, Result, Ok, Err}
use Rattle.std.specs.declared.io.Error.{Error}
use Rattle.std.specs.declared.io.ErrorKind.TheVariants.{WouldBlock, ConnectionAborted}
use Rattle.std.specs.IoError.{error_kind}
use Rattle.port_trait.specs.{Hint}
use Rattle.std.specs.declared.net.socket_addr.SocketAddr.{SocketAddr}
use Rattle.mio.specs.declared.net.stream.TcpStream.{TcpStream}
use Rattle.socket_kinds.specs.Answering.{Answers}
use Rattle.socket_kinds.specs.declared.stream.SocketStream.{SocketStream}
use Rattle.socket_kinds.specs.declared.stream.SocketStream.TheVariants as streams
use Rattle.socket_kinds.specs.declared.door.Listener.{Listener}
use Rattle.socket_kinds.specs.declared.door.Listener.TheVariants as listeners
use Rattle.socket_kinds.specs.declared.door.Arrival.{Arrival}
use Rattle.socket_kinds.specs.declared.door.Arrival.TheVariants as arrivals

-- whether its last accepting left off, and what it listens at
pub record DoorState (T : Type 0) : Type 0 where
  pub cut_short : Bool
  pub listener : Listener T

-- only those that come to a Unix socket have no address
abbrev pub is_unix : {T : Type 0} → Listener T → Bool
is_unix (listeners.Tcp listener) = false
is_unix (listeners.Unix listener) = true
is_unix (listeners.Udp enrolled) = false
is_unix (listeners.Packets enrolled) = false

-- a door that left off hints that peers may wait
abbrev pub door_hint : {T : Type 0} → DoorState T → Hint
door_hint door = record { readable = door.cut_short; writable = false }

-- who came has an address
abbrev pub ComesAddressed : Arrival → Type 0
ComesAddressed (arrivals.Came stream from) = from ≢ None
ComesAddressed arrivals.Aborted = Unit {0}
ComesAddressed arrivals.Starved = Unit {0}
ComesAddressed arrivals.LeftOff = Unit {0}
ComesAddressed (arrivals.Nobody error) = Unit {0}
ComesAddressed arrivals.Failed = Unit {0}

-- the error says neither that nobody waits nor that a connection was aborted
abbrev pub IsRefusal : Error → Type 0
IsRefusal error = (error_kind error ≢ WouldBlock) × (error_kind error ≢ ConnectionAborted)

-- nobody waits, a connection was aborted, or the system refuses, maybe since it has no descriptor for it yet
abbrev pub IsDeclined : Error → Arrival → Type 0
IsDeclined error (arrivals.Came stream from) = ⊥
IsDeclined error arrivals.Aborted = error_kind error ≡ ConnectionAborted
IsDeclined error arrivals.Starved = IsRefusal error
IsDeclined error arrivals.LeftOff = ⊥
IsDeclined error (arrivals.Nobody told) = (told ≡ error) × (error_kind error ≡ WouldBlock)
IsDeclined error arrivals.Failed = IsRefusal error

-- it is this connection, with this address
abbrev pub CameFrom : TcpStream → SocketAddr → Arrival → Type 0
CameFrom accepted addr (arrivals.Came stream from) = (stream ≡ streams.Tcp accepted) × (from ≡ Some addr)
CameFrom accepted addr arrivals.Aborted = ⊥
CameFrom accepted addr arrivals.Starved = ⊥
CameFrom accepted addr arrivals.LeftOff = ⊥
CameFrom accepted addr (arrivals.Nobody error) = ⊥
CameFrom accepted addr arrivals.Failed = ⊥

-- who came by what an accepting was answered
abbrev pub Comes : Result (TcpStream × SocketAddr) Error → Arrival → Type 0
Comes (Ok pair) arrival = CameFrom pair.0 pair.1 arrival
Comes (Err error) arrival = IsDeclined error arrival

-- an accepting came to its end before the connections that may wait
abbrev pub has_left : Arrival → Bool
has_left (arrivals.Came stream from) = false
has_left arrivals.Aborted = false
has_left arrivals.Starved = false
has_left arrivals.LeftOff = true
has_left (arrivals.Nobody error) = false
has_left arrivals.Failed = false

-- an aborted connection is passed over, and one that has to wait is left
abbrev pub IsOne : Arrival → Type 0
IsOne (arrivals.Came stream from) = Unit {0}
IsOne arrivals.Aborted = ⊥
IsOne arrivals.Starved = ⊥
IsOne arrivals.LeftOff = Unit {0}
IsOne (arrivals.Nobody error) = Unit {0}
IsOne arrivals.Failed = Unit {0}

-- nobody waits only where the call would have blocked
abbrev pub OnlyBlocked : Arrival → Type 0
OnlyBlocked (arrivals.Came stream from) = Unit {0}
OnlyBlocked arrivals.Aborted = Unit {0}
OnlyBlocked arrivals.Starved = Unit {0}
OnlyBlocked arrivals.LeftOff = Unit {0}
OnlyBlocked (arrivals.Nobody error) = error_kind error ≡ WouldBlock
OnlyBlocked arrivals.Failed = Unit {0}

-- a connection comes at a TCP listener as one that it accepts, with the address that this accepting tells; one of a Unix
-- socket has no address
abbrev pub CameAt : {T : Type 0} → (T → Result (TcpStream × SocketAddr) Error → Type 0) → Listener T → SocketStream → Option SocketAddr → Type 0
CameAt comes (listeners.Tcp listener) stream from = (accepted : TcpStream) × (addr : SocketAddr) × comes listener (Ok (accepted, addr)) × (stream ≡ streams.Tcp accepted) × (from ≡ Some addr)
CameAt comes (listeners.Unix listener) stream from = from ≡ None
CameAt comes (listeners.Udp enrolled) stream from = ⊥
CameAt comes (listeners.Packets enrolled) stream from = ⊥

-- what one accepting at a TCP listener was told; nothing is known of another listener
abbrev pub ToldAt : {T : Type 0} → (T → Result (TcpStream × SocketAddr) Error → Type 0) → Listener T → (Result (TcpStream × SocketAddr) Error → Type 0) → Type 0
ToldAt comes (listeners.Tcp listener) P = Answers (comes listener) P
ToldAt comes (listeners.Unix listener) P = Unit {0}
ToldAt comes (listeners.Udp enrolled) P = Unit {0}
ToldAt comes (listeners.Packets enrolled) P = Unit {0}

-- nobody is let in where the call would have blocked; at a door that left off it failed by another error
abbrev pub LetsNobodyIn : Bool → Result (TcpStream × SocketAddr) Error → Type 0
LetsNobodyIn left (Ok pair) = ⊥
LetsNobodyIn true (Err error) = error_kind error ≢ WouldBlock
LetsNobodyIn false (Err error) = error_kind error ≡ WouldBlock

-- what an accepting at this listener came to, by what the system told
abbrev pub ArrivesAt : {T : Type 0} → (T → Result (TcpStream × SocketAddr) Error → Type 0) → Listener T → Arrival → Type 0
ArrivesAt comes listener (arrivals.Came stream from) = CameAt comes listener stream from
ArrivesAt comes listener arrivals.Aborted = ToldAt comes listener (λ told. Comes told arrivals.Aborted)
ArrivesAt comes listener arrivals.Starved = ToldAt comes listener (λ told. Comes told arrivals.Starved)
ArrivesAt comes listener arrivals.LeftOff = ToldAt comes listener (LetsNobodyIn true)
ArrivesAt comes listener (arrivals.Nobody error) = ToldAt comes listener (λ told. Comes told (arrivals.Nobody error))
ArrivesAt comes listener arrivals.Failed = ToldAt comes listener (λ told. Comes told arrivals.Failed)
