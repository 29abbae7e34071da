-- Which port an address gets.
use Rattle.std.specs.Prelude.{◌≡◌, Bool, true, false, ◌&&◌, Some, is_some}
use Rattle.relay_model.specs.{Peer, Single, Target, listens}
use Rattle.relay_model.specs.declared.commands.Target.TheVariants as targets
use Rattle.file_ports.specs.{file_named}
use Rattle.child_ports.specs.{runs_program}
use Rattle.socket_kinds.specs.{Listening}
use Rattle.socket_maker.specs.{opened_sort, HasPartnerAt, is_door_port, is_unix_door_port, sort_at}
use Rattle.real_maker.specs.declared.ports.RealPort.{RealPort}
use Rattle.real_maker.specs.declared.ports.RealPort.TheVariants as ports

-- it is reached through a SOCKS server
abbrev pub is_socks : Target → Bool
is_socks (targets.Socks named server host port) = true
is_socks _ = false

-- it is reached through an HTTP proxy
abbrev pub is_proxy : Target → Bool
is_proxy (targets.Proxy server host port) = true
is_proxy _ = false

-- its door takes the datagrams of its senders
abbrev pub takes_datagrams : Target → Bool
takes_datagrams (targets.UdpListen family port) = true
takes_datagrams _ = false

-- its door takes datagrams, and each of their senders has a session
abbrev pub gathers_senders : Single → Bool
gathers_senders single = takes_datagrams single.target && single.options.sessions.fork

-- the port is of the kind that is opened for such an address
abbrev pub IsOpenedFor : Target → RealPort → Type 0
IsOpenedFor target (ports.Echo port) = target ≡ targets.Echo
IsOpenedFor target (ports.Socket port) = opened_sort target ≡ Some (sort_at port)
IsOpenedFor target (ports.File port) = is_some (file_named target) ≡ true
IsOpenedFor target (ports.Child port) = runs_program target ≡ true
IsOpenedFor target (ports.Socks port) = is_socks target ≡ true
IsOpenedFor target (ports.Proxy port) = is_proxy target ≡ true
IsOpenedFor target (ports.Peer port) = ⊥

-- the port is the door of such an address
abbrev pub IsDoorFor : Single → RealPort → Type 0
IsDoorFor single (ports.Socket port) = (listens single.target ≡ true) × (gathers_senders single ≡ false) × (sort_at port ≡ Listening)
IsDoorFor single (ports.Peer port) = gathers_senders single ≡ true
IsDoorFor single _ = ⊥

-- the port is a peer's, of the kind that comes at such a door
abbrev pub ComesAt : RealPort → RealPort → Type 0
ComesAt (ports.Socket door) (ports.Socket port) = (is_door_port door ≡ true) × (is_door_port port ≡ false)
ComesAt (ports.Peer door) (ports.Peer port) = Unit {0}
ComesAt _ _ = ⊥

-- the peer is the one that came with the port: at the address that its accepting or its datagram told
abbrev pub IsOfPeer : RealPort → Peer → Type 0
IsOfPeer (ports.Socket port) peer = HasPartnerAt port peer
IsOfPeer (ports.Peer port) peer = port.peer ≡ Some peer
IsOfPeer _ peer = ⊥

-- the port is a door to which those come that have no address
abbrev pub is_local_door : RealPort → Bool
is_local_door (ports.Socket door) = is_unix_door_port door
is_local_door _ = false
