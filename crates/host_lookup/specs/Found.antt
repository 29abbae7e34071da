-- Which of a host's addresses is taken.
use Rattle.std.specs.Prelude.{◌≡◌, ℕ, Bool, true, List, Option, None, Some, IfSome, IsSomeAnd}
use Rattle.std.specs.List.{find}
use Rattle.std.specs.declared.net.socket_addr.SocketAddr.{SocketAddr}
use Rattle.std.specs.Net.Addr.{is_ipv4, is_ipv6}
use Rattle.std.specs.Net.Socket.{socket_ip, socket_port}
use Rattle.relay_model.specs.{Family}
use Rattle.relay_model.specs.declared.commands.Family.TheVariants as families
use Rattle.port_trait.specs.{Making}
use Rattle.port_trait.specs.declared.makers.Making.TheVariants as makings

-- an IPv4 address
abbrev pub has_ipv4 : SocketAddr → Bool
has_ipv4 addr = is_ipv4 (socket_ip addr)

-- an IPv6 address
abbrev pub has_ipv6 : SocketAddr → Bool
has_ipv6 addr = is_ipv6 (socket_ip addr)

-- the first where there is one, and else the second
abbrev pub first_of : {A : Type 0} → Option A → Option A → Option A
first_of (Some first) second = Some first
first_of None second = second

-- the one of the family; of none the IPv4 address, and the IPv6 one where there is no IPv4
abbrev pub chosen : {A : Type 0} → Family → Option A → Option A → Option A
chosen families.V4 ipv4 ipv6 = ipv4
chosen families.V6 ipv4 ipv6 = ipv6
chosen families.Any ipv4 ipv6 = first_of ipv4 ipv6

-- an address of the family
abbrev pub IsOfFamily : Family → SocketAddr → Type 0
IsOfFamily families.V4 addr = has_ipv4 addr ≡ true
IsOfFamily families.V6 addr = has_ipv6 addr ≡ true
IsOfFamily families.Any addr = Unit {0}

-- what stands at the port of the address that was found, where one was
abbrev pub IsAtPort : ℕ → Option SocketAddr → Option SocketAddr → Type 0
IsAtPort port None now = now ≡ None
IsAtPort port (Some found) now = IsSomeAnd now (λ addr. (socket_ip addr ≡ socket_ip found) × (socket_port addr ≡ port))

-- a fact of the lookup that was begun
abbrev pub OnBegun : {T : Type 0} → Making T → (T → Type 0) → Type 0
OnBegun (makings.Made lookup) P = P lookup
OnBegun (makings.Later lookup) P = ⊥
OnBegun makings.Failed P = Unit {0}
OnBegun makings.Memory P = Unit {0}
