-- Who comes at a door came by its listener.
use Rattle.std.proofs.Common.{Bool, Option, Result, subst}
use Rattle.std.specs.Prelude.{Ok}
use Rattle.std.specs.declared.io.Error.{Error}
use Rattle.std.specs.declared.net.socket_addr.SocketAddr.{SocketAddr}
use Rattle.mio.specs.declared.net.stream.TcpStream.{TcpStream}
use Rattle.port_trait.specs.declared.makers.MadePeer.{MadePeer}
use Rattle.port_trait.specs.declared.makers.MadePeer.TheVariants as peers
use Rattle.socket_kinds.specs.Accepting.{StandsOrFailed}
use Rattle.socket_kinds.specs.Doors.{ArrivesAt, CameAt, DoorState, ToldAt}
use Rattle.socket_kinds.specs.Kinds.{AcceptsAt, ComesTo, FailsToStand, IsConnectedFrom, SocketAt}
use Rattle.socket_kinds.specs.declared.any_socket.AnySocket.TheVariants as sockets
use Rattle.socket_kinds.specs.declared.door.Arrival.TheVariants as arrivals
use Rattle.socket_kinds.specs.declared.door.Listener.{Listener}
use Rattle.socket_kinds.specs.declared.door.Listener.TheVariants as listeners
use Rattle.socket_kinds.specs.declared.stream.SocketStream.{SocketStream}

module _ {T : Type 0} (comes : T → Result (TcpStream × SocketAddr) Error → Type 0) where
  one_comes : (listener : Listener T) (stream : SocketStream) (from : Option SocketAddr) (socket : SocketAt T) → CameAt comes listener stream from → IsConnectedFrom from socket → ComesTo comes listener socket
  one_comes (listeners.Tcp listener) stream from socket (accepted, addr, gave, over, told) connected = (accepted, addr, gave, subst (λ f. IsConnectedFrom f socket) told connected)
  one_comes (listeners.Unix listener) stream from socket told connected = subst (λ f. IsConnectedFrom f socket) told connected
  one_comes (listeners.Udp enrolled) stream from socket never connected = absurd never
  one_comes (listeners.Packets enrolled) stream from socket never connected = absurd never

  told_for_nothing : (listener : Listener T) (stream : SocketStream) (from : Option SocketAddr) → CameAt comes listener stream from → ToldAt comes listener FailsToStand
  told_for_nothing (listeners.Tcp listener) stream from (accepted, addr, gave, over, told) = (Ok (accepted, addr), gave, tt)
  told_for_nothing (listeners.Unix listener) stream from told = tt
  told_for_nothing (listeners.Udp enrolled) stream from told = tt
  told_for_nothing (listeners.Packets enrolled) stream from told = tt

  -- a connection that came by the listener stands with the address that it came with, or was told for nothing
  pub stands : (door : DoorState T) (left : Bool) (stream : SocketStream) (from : Option SocketAddr) (made : MadePeer (SocketAt T)) → ArrivesAt comes door.listener (arrivals.Came stream from) → StandsOrFailed (IsConnectedFrom from) made → AcceptsAt comes (sockets.Door door) left (λ socket. socket) made
  stands door left stream from (peers.Came socket peer) came connected = one_comes door.listener stream from socket came connected
  stands door left stream from peers.NoPeer came never = absurd never
  stands door left stream from peers.Failed came failed = told_for_nothing door.listener stream from came
  stands door left stream from peers.Memory came never = absurd never
