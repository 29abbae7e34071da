-- Which addresses sockets are bound to and connect to.
use Rattle.std.specs.Prelude.{◌≡◌, ◌≢◌, ℕ, ◌∷◌, [], Option, None, Some, IsSomeAnd, if◌then◌else◌}
use Rattle.std.specs.declared.net.ip_addr.IpAddr.{IpAddr}
use Rattle.std.specs.declared.net.ip_addr.IpAddr.TheVariants as ips
use Rattle.std.specs.declared.net.socket_addr.SocketAddr.{SocketAddr}
use Rattle.std.specs.Net.Addr.{ipv4_octets, ipv6_segments}
use Rattle.std.specs.Net.Socket.{socket_ip, socket_port}
use Rattle.relay_model.specs.{Peer, Bind, Family, Target}
use Rattle.relay_model.specs.declared.acts.Peer.TheVariants as peers
use Rattle.relay_model.specs.declared.commands.Family.TheVariants as families
use Rattle.relay_model.specs.declared.commands.Target.TheVariants as targets
use Rattle.socket_kinds.specs.{IsIpv4, IsIpv6, IsAddress}
use Rattle.host_lookup.specs.{has_ipv6}

-- every address of this machine, by IPv4
abbrev pub IsAnyIpv4 : IpAddr → Type 0
IsAnyIpv4 (ips.V4 ip) = ipv4_octets ip ≡ 0 ∷ 0 ∷ 0 ∷ 0 ∷ []
IsAnyIpv4 (ips.V6 ip) = ⊥

-- and by IPv6
abbrev pub IsAnyIpv6 : IpAddr → Type 0
IsAnyIpv6 (ips.V4 ip) = ⊥
IsAnyIpv6 (ips.V6 ip) = ipv6_segments ip ≡ 0 ∷ 0 ∷ 0 ∷ 0 ∷ 0 ∷ 0 ∷ 0 ∷ 0 ∷ []

-- every address of this machine, by IPv6 where the family is that and by IPv4 otherwise
abbrev pub IsUnspecified : Family → IpAddr → Type 0
IsUnspecified families.V4 ip = IsAnyIpv4 ip
IsUnspecified families.V6 ip = IsAnyIpv6 ip
IsUnspecified families.Any ip = IsAnyIpv4 ip

-- the address has the IP address of the peer
abbrev pub HasIpOf : Peer → SocketAddr → Type 0
HasIpOf (peers.V4 octets port) addr = IsIpv4 octets (socket_ip addr)
HasIpOf (peers.V6 octets port) addr = IsIpv6 octets (socket_ip addr)
HasIpOf peers.Local addr = ⊥

-- the IP address of `bind`, and without it every address of the family, at this port
abbrev pub IsBound : Option Bind → Family → ℕ → Option SocketAddr → Type 0
IsBound None family port found = IsSomeAnd found (λ addr. IsUnspecified family (socket_ip addr) × (socket_port addr ≡ port))
IsBound (Some bind) family port found = (bind.addr ≡ peers.Local → found ≡ None) × (bind.addr ≢ peers.Local → IsSomeAnd found (λ addr. HasIpOf bind.addr addr × (socket_port addr ≡ port)))

-- the family and the port at which an address waits for peers or datagrams
abbrev pub waits_at : Target → Option (Family × ℕ)
waits_at (targets.TcpListen family port) = Some (family, port)
waits_at (targets.UdpListen family port) = Some (family, port)
waits_at (targets.UdpRecvfrom family port) = Some (family, port)
waits_at (targets.UdpRecv family port) = Some (family, port)
waits_at _ = None

-- where an address with this `bind` waits
abbrev pub IsDoorAddress : Option Bind → Option (Family × ℕ) → Option SocketAddr → Type 0
IsDoorAddress bind None found = found ≡ None
IsDoorAddress bind (Some at) found = IsBound bind at.0 at.1 found

-- the family of an address
abbrev pub family_of : SocketAddr → Family
family_of addr = if has_ipv6 addr then families.V6 else families.V4

-- what a socket to this address is bound to: the `bind` with its port, and without it any port of every address
abbrev pub IsLocalAddress : Option Bind → SocketAddr → Option SocketAddr → Type 0
IsLocalAddress None remote found = IsSomeAnd found (λ addr. IsUnspecified (family_of remote) (socket_ip addr) × (socket_port addr ≡ 0))
IsLocalAddress (Some bind) remote found = IsAddress bind.addr found
