-- What contracts see of a made port: what they see of the port that it is.
use Rattle.real_maker.specs.declared.ports.RealPort.{RealPort}
use Rattle.real_maker.specs.declared.ports.RealPort.TheVariants as ports
use Rattle.port_objects.specs.{EchoState}
use Rattle.file_ports.specs.{HalvesState, FileStream}
use Rattle.tunnel_port.specs.{TunnelState, ConnectState}
use Rattle.real_maker.specs.SocksStages.{SocksOpeningState}
use Rattle.socket_ports.specs.{PeerState, SocketPortState}
use Rattle.socket_maker.specs.{HostPort}

-- what the port that it is tells
abbrev pub of_port : {T : Type 0} → (EchoState → T) → (HostPort → T) → (SocketPortState FileStream → T) → (SocketPortState HalvesState → T) → (SocksOpeningState HostPort → T) → (TunnelState HostPort ConnectState → T) → (PeerState → T) → RealPort → T
of_port echo socket file child socks proxy peer (ports.Echo port) = echo port
of_port echo socket file child socks proxy peer (ports.Socket port) = socket port
of_port echo socket file child socks proxy peer (ports.File port) = file port
of_port echo socket file child socks proxy peer (ports.Child port) = child port
of_port echo socket file child socks proxy peer (ports.Socks port) = socks port.value
of_port echo socket file child socks proxy peer (ports.Proxy port) = proxy port
of_port echo socket file child socks proxy peer (ports.Peer port) = peer port
