-- What a SOCKS server is to be asked for, now or once the host is looked up.
use Rattle.std.specs.Prelude.{◌≡◌, ℕ, Bool, true, false, List}
use Rattle.tunnel_port.specs.{socks4a}
use Rattle.host_lookup.specs.{IsNameOf}
use Rattle.real_maker.specs.Asking.{IsWrittenRequest}
use Rattle.real_maker.specs.declared.proxied.Wanted.{Wanted}
use Rattle.real_maker.specs.declared.proxied.Wanted.TheVariants as wants

-- a connection to this host and port in the name of this user: SOCKS4A names the host at once, and SOCKS4 has the address
-- that is written, or looks the name up
abbrev pub IsWantedOf : Bool → List ℕ → ℕ → List ℕ → Wanted → Type 0
IsWantedOf true host port user (wants.Now request) = request ≡ socks4a host port user
IsWantedOf true host port user (wants.Once lookup wanted told) = ⊥
IsWantedOf false host port user (wants.Now request) = IsWrittenRequest host port user request
IsWantedOf false host port user (wants.Once lookup wanted told) = IsNameOf host lookup × (wanted ≡ port) × (told ≡ user)
