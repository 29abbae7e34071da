-- Which sockets are made of which addresses.
use Rattle.std.specs.Prelude.{Option, None, Some}
use Rattle.relay_model.specs.{Target}
use Rattle.relay_model.specs.declared.commands.Target.TheVariants as targets
use Rattle.port_trait.specs.{Making}
use Rattle.port_trait.specs.declared.makers.Making.TheVariants as makings
use Rattle.socket_kinds.specs.{Sort, Connected, Packets, SystemSocket, sort_of}

-- what is opened for an address that doesn't listen
abbrev pub opened_sort : Target → Option Sort
opened_sort (targets.Tcp family host port) = Some Connected
opened_sort (targets.Udp family host port) = Some Packets
opened_sort (targets.UdpSendto family host port) = Some Packets
opened_sort (targets.UdpRecv family port) = Some Packets
opened_sort (targets.UnixConnect name) = Some Connected
opened_sort (targets.GenericOpen name) = Some Connected
opened_sort _ = None

-- the sort of the socket that was made
abbrev pub socket_sort : Making SystemSocket → Option Sort
socket_sort (makings.Made socket) = Some (sort_of socket)
socket_sort (makings.Later socket) = Some (sort_of socket)
socket_sort makings.Failed = None
socket_sort makings.Memory = None
