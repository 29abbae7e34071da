-- What the text of a host writes.
use Rattle.std.specs.Prelude.{◌≡◌, ◌≢◌, ℕ, ◌∷◌, ◌++◌, [], ◌⊎◌, List, IsUtf8}
use Rattle.std.specs.Net.Grammar.{IsIpText}
use Rattle.std.specs.declared.net.ip_addr.IpAddr.{IpAddr}
use Rattle.host_lookup.specs.declared.hosts.WrittenHost.{WrittenHost}
use Rattle.host_lookup.specs.declared.hosts.WrittenHost.TheVariants as writes

-- the text in brackets (RFC 3986, `IP-literal`), and any other as it is
abbrev pub IsBare : List ℕ → List ℕ → Type 0
IsBare host bare = (host ≡ 91 ∷ bare ++ 93 ∷ []) ⊎ ((bare ≡ host) × ((inner : List ℕ) → host ≢ 91 ∷ inner ++ 93 ∷ []))

-- the text writes this address in numbers
abbrev pub WritesIp : List ℕ → IpAddr → Type 0
WritesIp host ip = (bare : List ℕ) × IsBare host bare × IsIpText bare ip

-- the text is this name, which writes no address in numbers
abbrev pub IsNameOf : List ℕ → List ℕ → Type 0
IsNameOf host name = IsBare host name × ((ip : IpAddr) → ¬ (IsIpText name ip))

-- what the text is: an address in numbers, and a name only where it is none
abbrev pub IsWritten : List ℕ → WrittenHost → Type 0
IsWritten host (writes.Address ip) = WritesIp host ip
IsWritten host (writes.Name name) = IsNameOf host name.now
IsWritten host writes.Unnamed = ¬ (IsUtf8 host)
