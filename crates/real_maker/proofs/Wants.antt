-- What a SOCKS server is asked for stays what it was to be asked for.
use Rattle.std.proofs.Common.{◌≡◌, ℕ, Bool, true, false, List, []}
use Rattle.tunnel_port.specs.Tunnels.{fresh_tunnel}
use Rattle.socket_maker.specs.declared.port.HostPort.{HostPort}
use Rattle.real_maker.specs.Asking.{AsksAt}
use Rattle.real_maker.specs.Wanting.{IsWantedOf}
use Rattle.real_maker.specs.declared.proxied.Wanted.TheVariants as wants
use Rattle.real_maker.specs.declared.socks.SocksStage.TheVariants as stages

pub asks_now : (inner : HostPort) (request : List ℕ) (named : Bool) (host : List ℕ) (port : ℕ) (user : List ℕ) → IsWantedOf named host port user (wants.Now request) → AsksAt named host port user (stages.Talking (fresh_tunnel inner (record { request = request; heard = [] })))
asks_now inner request true host port user wanted = wanted
asks_now inner request false host port user wanted = wanted

pub asks_later : (inner : HostPort) (lookup : List ℕ) (wanted : ℕ) (told : List ℕ) (named : Bool) (host : List ℕ) (port : ℕ) (user : List ℕ) → IsWantedOf named host port user (wants.Once lookup wanted told) → AsksAt named host port user (stages.Asking (record { inner = inner; name = lookup; port = wanted; user = told }))
asks_later inner lookup wanted told true host port user never = absurd never
asks_later inner lookup wanted told false host port user same = same
