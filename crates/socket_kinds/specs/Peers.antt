-- Peers and the system's addresses of them.
use Rattle.std.specs.Prelude.{◌≡◌, ℕ, List, true, Option, None, is_some, IfSome}
use Rattle.std.specs.declared.net.ip_addr.IpAddr.{IpAddr}
use Rattle.std.specs.declared.net.ip_addr.IpAddr.TheVariants as ips
use Rattle.std.specs.declared.net.socket_addr.SocketAddr.{SocketAddr}
use Rattle.std.specs.declared.net.socket_addr.SocketAddr.TheVariants as addrs
use Rattle.std.specs.Net.Addr.{ipv4_octets, ipv6_octets, ipv6_segments, segments_of}
use Rattle.std.specs.Net.Socket.{v4_ip, v4_port, v6_ip, v6_port, socket_ip, socket_port}
use Rattle.relay_model.specs.{Peer}
use Rattle.relay_model.specs.declared.acts.Peer.TheVariants as peers

-- the peer has the address and the port
abbrev pub IsPeer : SocketAddr → Peer → Type 0
IsPeer (addrs.V4 addr) (peers.V4 octets port) = (octets ≡ ipv4_octets (v4_ip addr)) × (port ≡ v4_port addr)
IsPeer (addrs.V4 addr) (peers.V6 octets port) = ⊥
IsPeer (addrs.V4 addr) peers.Local = ⊥
IsPeer (addrs.V6 addr) (peers.V4 octets port) = ⊥
IsPeer (addrs.V6 addr) (peers.V6 octets port) = (octets ≡ ipv6_octets (v6_ip addr)) × (port ≡ v6_port addr)
IsPeer (addrs.V6 addr) peers.Local = ⊥

-- the address is this IPv4 one
abbrev pub IsIpv4 : List ℕ → IpAddr → Type 0
IsIpv4 octets (ips.V4 addr) = ipv4_octets addr ≡ octets
IsIpv4 octets (ips.V6 addr) = ⊥

-- the address is this IPv6 one
abbrev pub IsIpv6 : List ℕ → IpAddr → Type 0
IsIpv6 octets (ips.V4 addr) = ⊥
IsIpv6 octets (ips.V6 addr) = ipv6_segments addr ≡ segments_of octets

-- the address has the address and the port of the peer
abbrev pub IsAddress : Peer → Option SocketAddr → Type 0
IsAddress (peers.V4 octets port) found = (is_some found ≡ true) × IfSome found (λ addr. IsIpv4 octets (socket_ip addr) × (socket_port addr ≡ port))
IsAddress (peers.V6 octets port) found = (is_some found ≡ true) × IfSome found (λ addr. IsIpv6 octets (socket_ip addr) × (socket_port addr ≡ port))
IsAddress peers.Local found = found ≡ None
