-- What a proxy is asked for.
use Rattle.std.specs.Prelude.{◌≡◌, ◌<◌, ℕ, Bool, true, false, List, length}
use Rattle.std.specs.Net.Addr.{ipv4_octets}
use Rattle.std.specs.declared.net.ip_addr.IpAddr.TheVariants as ips
use Rattle.std.specs.declared.net.ipv4_addr.Ipv4Addr.{Ipv4Addr}
use Rattle.host_lookup.specs.{IsNameOf, WritesIp}
use Rattle.relay_model.specs.{Options, Target}
use Rattle.relay_model.specs.declared.commands.Target.TheVariants as targets
use Rattle.tunnel_port.specs.{socks4, socks4a, connect_request}
use Rattle.real_maker.specs.declared.socks.SocksStage.{SocksStage}
use Rattle.real_maker.specs.declared.socks.SocksStage.TheVariants as stages
use Rattle.real_maker.specs.declared.ports.RealPort.{RealPort}
use Rattle.real_maker.specs.declared.ports.RealPort.TheVariants as ports

-- the request of SOCKS4 for this port of the address that the text of the host writes in numbers
abbrev pub IsWrittenRequest : List ℕ → ℕ → List ℕ → List ℕ → Type 0
IsWrittenRequest host port user request = (ip : Ipv4Addr) × WritesIp host (ips.V4 ip) × (request ≡ socks4 (ipv4_octets ip) port user)

-- a SOCKS server is asked for this host and port: SOCKS4A names the host, and SOCKS4 has the address that is written or
-- that the name is looked up for
abbrev pub AsksAt : {P : Type 0} → Bool → List ℕ → ℕ → List ℕ → SocksStage P → Type 0
AsksAt true host wanted user (stages.Talking port) = port.talk.request ≡ socks4a host wanted user
AsksAt true host wanted user _ = ⊥
AsksAt false host wanted user (stages.Talking port) = IsWrittenRequest host wanted user port.talk.request
AsksAt false host wanted user (stages.Asking asked) = IsNameOf host asked.name × (asked.port ≡ wanted) × (asked.user ≡ user)
AsksAt false host wanted user stages.Over = ⊥

-- once the host is found, the server is asked for these octets, at the port and in the name of the user that are kept.
-- Only a user of more than 255 bytes isn't told
abbrev pub AsksFound : {P : Type 0} → List ℕ → SocksStage P → SocksStage P → Type 0
AsksFound octets (stages.Asking asked) (stages.Talking port) = port.talk.request ≡ socks4 octets asked.port asked.user
AsksFound octets (stages.Asking asked) (stages.Asking other) = ⊥
AsksFound octets (stages.Asking asked) stages.Over = 255 < length asked.user
AsksFound octets _ now = Unit {0}

-- the port asks one
abbrev pub AsksSocks : Bool → List ℕ → ℕ → List ℕ → RealPort → Type 0
AsksSocks named host wanted user (ports.Socks port) = AsksAt named host wanted user port.value.stage
AsksSocks named host wanted user _ = ⊥

-- the port asks an HTTP proxy for it
abbrev pub AsksProxy : List ℕ → ℕ → RealPort → Type 0
AsksProxy host wanted (ports.Proxy port) = port.talk.request ≡ connect_request host wanted
AsksProxy host wanted _ = ⊥

-- the port asks its proxy for what the address names
abbrev pub Asks : Target → Options → RealPort → Type 0
Asks (targets.Socks named server host wanted) options port = AsksSocks named host wanted options.proxy.socksuser port
Asks (targets.Proxy server host wanted) options port = AsksProxy host wanted port
Asks _ options port = Unit {0}
