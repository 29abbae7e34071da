-- Ranges of addresses, and local addresses to bind to.
use Rattle.std.specs.Prelude.{ℕ, ◌*◌, ◌-◌, ◌^◌, min, Bool, not, ◌==◌, List, [], ◌∷◌, length, drop, map, slice_index, bit_and, Option, Some, None, if◌then◌else◌}
use Rattle.std.specs.List.{range_with_len, list_any}
use Rattle.std.specs.Str.{byte}
use Rattle.relay_model.specs.{Peer, Range, Bind}
use Rattle.relay_model.specs.declared.acts.Peer.TheVariants as peer
use Rattle.relay_model.specs.declared.commands.Range.TheVariants as network
use Rattle.option_table.specs.Parts.{◌>>=◌, only_if, or_else, around_first, in_brackets}
use Rattle.option_table.specs.Numbers.{short_number}
use Rattle.option_table.specs.Literals.{ipv4_of, ipv6_of}

-- an octet whose first bits are set, all 8 where there are more
unfoldable pub octet_mask : ℕ → ℕ
octet_mask bits = 256 - 2 ^ (8 - min 8 bits)

-- so many octets, of which the first bits are set
unfoldable pub leading_mask : ℕ → ℕ → List ℕ
leading_mask count bits = map (λ k. octet_mask (bits - 8 * k)) (range_with_len 0 count)

-- the bits of the octets that the mask has too
unfoldable pub masked : List ℕ → List ℕ → List ℕ
masked octets mask =
    map (λ k. bit_and (slice_index octets k) (slice_index mask k)) (range_with_len 0 (length octets))

-- an IPv4 network and its mask
abbrev pub v4_network : List ℕ → List ℕ → Range
v4_network octets mask = network.V4 (masked octets mask) mask

-- an IPv6 network and its mask
abbrev pub v6_network : List ℕ → List ℕ → Range
v6_network octets mask = network.V6 (masked octets mask) mask

-- `a.b.c.d/bits`
unfoldable pub v4_by_bits : List ℕ → Option Range
v4_by_bits text = do
  parts ← around_first (byte "/") text
  octets ← ipv4_of parts.0
  bits ← short_number 3 32 parts.1
  Some (v4_network octets (leading_mask 4 bits))

-- `a.b.c.d:m.m.m.m`
unfoldable pub v4_by_mask : List ℕ → Option Range
v4_by_mask text = do
  parts ← around_first (byte ":") text
  octets ← ipv4_of parts.0
  mask ← ipv4_of parts.1
  Some (v4_network octets mask)

-- `[addr/bits]`
unfoldable pub v6_by_bits : List ℕ → Option Range
v6_by_bits text = do
  inner ← in_brackets text
  parts ← around_first (byte "/") inner
  octets ← ipv6_of parts.0
  bits ← short_number 3 128 parts.1
  Some (v6_network octets (leading_mask 16 bits))

-- the network that a text spells
unfoldable pub range_of : List ℕ → Option Range
range_of text = or_else (v4_by_bits text) (or_else (v4_by_mask text) (v6_by_bits text))

-- nothing, which is port 0, or `:` and a port
unfoldable pub port_after : List ℕ → Option ℕ
port_after [] = Some 0
port_after (c ∷ digits) = if c == byte ":" then short_number 5 65535 digits else None

-- an IPv4 address, with the port behind it if one is written
abbrev pub v4_peer : List ℕ → Option (List ℕ × List ℕ) → Option Peer
v4_peer text None = do
  octets ← ipv4_of text
  Some (peer.V4 octets 0)
v4_peer text (Some parts) = do
  octets ← ipv4_of parts.0
  port ← short_number 5 65535 parts.1
  Some (peer.V4 octets port)

-- an IPv4 address, and after it `:` and a port or nothing
unfoldable pub v4_address : List ℕ → Option Peer
v4_address text = v4_peer text (around_first (byte ":") text)

-- an IPv6 address in brackets, and after it a port or nothing
unfoldable pub v6_address : List ℕ → Option Peer
v6_address text = do
  inner ← only_if (slice_index text 0 == byte "[") (drop 1 text)
  parts ← around_first (byte "]") inner
  octets ← ipv6_of parts.0
  port ← port_after parts.1
  Some (peer.V6 octets port)

-- the address to bind to that a text spells
unfoldable pub bind_of : List ℕ → Option Bind
bind_of text = or_else (v4_address text) (v6_address text) >>= (λ addr. Some (record { addr = addr }))

-- whether a local address is written with a port: an IPv4 address has a colon then, and a bracketed one doesn't
-- end in its bracket
unfoldable pub writes_port : List ℕ → Bool
writes_port text =
    if slice_index text 0 == byte "[" then not (slice_index text (length text - 1) == byte "]")
    else list_any (λ c. c == byte ":") text
