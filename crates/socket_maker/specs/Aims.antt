-- What is opened to a host.
use Rattle.std.specs.Prelude.{◌≡◌, ℕ, List, Option, None, Some}
use Rattle.std.specs.declared.net.socket_addr.SocketAddr.{SocketAddr}
use Rattle.std.specs.Net.Socket.{socket_ip, socket_port}
use Rattle.relay_model.specs.declared.commands.Family.TheVariants as families
use Rattle.relay_model.specs.{SocketOptions, Target}
use Rattle.relay_model.specs.declared.commands.Target.TheVariants as targets
use Rattle.socket_kinds.specs.{Sort, Connected, Packets}
use Rattle.host_lookup.specs.{IsOfFamily, WritesIp}
use Rattle.socket_maker.specs.declared.aims.Aim.{Aim}
use Rattle.socket_maker.specs.declared.aims.SocketWay.{SocketWay}
use Rattle.socket_maker.specs.declared.aims.SocketWay.TheVariants as ways

-- what is opened for an address with a host
abbrev pub aim_of : Target → SocketOptions → Option Aim
aim_of (targets.Tcp family host port) options = Some (record { way = ways.Connection; family = family; port = port; options = options })
aim_of (targets.Udp family host port) options = Some (record { way = ways.Partner; family = family; port = port; options = options })
aim_of (targets.UdpSendto family host port) options = Some (record { way = ways.Sending; family = family; port = port; options = options })
aim_of _ options = None

-- its host
abbrev pub host_of : Target → Option (List ℕ)
host_of (targets.Tcp family host port) = Some host
host_of (targets.Udp family host port) = Some host
host_of (targets.UdpSendto family host port) = Some host
host_of _ = None

-- a connection to the port of a proxy's server
abbrev pub server_aim : ℕ → SocketOptions → Aim
server_aim port options = record { way = ways.Connection; family = families.Any; port = port; options = options }

-- the sort of the socket
abbrev pub way_sort : SocketWay → Sort
way_sort ways.Connection = Connected
way_sort ways.Partner = Packets
way_sort ways.Sending = Packets

-- an address of the family, at the port that was asked for
pub record IsReached (aim : Aim) (addr : SocketAddr) : Type 0 where
  pub port : socket_port addr ≡ aim.port
  pub family : IsOfFamily aim.family addr

-- such an address, which the text of the host writes in numbers
pub record IsWrittenOut (host : List ℕ) (aim : Aim) (addr : SocketAddr) : Type 0 where
  pub reached : IsReached aim addr
  pub written : WritesIp host (socket_ip addr)
