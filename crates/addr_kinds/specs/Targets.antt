-- What the parameters of a kind make, or what is wrong with them.
use Rattle.std.specs.Prelude.{ℕ, Bool, true, false, min, ◌^◌, ◌-◌, List, [], ◌∷◌, length, Option, Some, None, Result, Ok, Err}
use Rattle.relay_model.specs.{Family, Target}
use Rattle.relay_model.specs.declared.commands.Family.TheVariants.{Any, V4}
use Rattle.relay_model.specs.declared.commands.Target.TheVariants as target
use Rattle.option_table.specs.{only_if}
use Rattle.addr_grammar.specs.{◌>>=◌}
use Rattle.addr_kinds.specs.declared.faults.KindFault.{KindFault}
use Rattle.addr_kinds.specs.declared.faults.KindFault.TheVariants.{Parameters, BadParameter}
use Rattle.addr_kinds.specs.declared.kinds.StreamKind.{StreamKind}
use Rattle.addr_kinds.specs.declared.kinds.StreamKind.TheVariants.{Stdio, Stdin, Stdout, Stderr}
use Rattle.addr_kinds.specs.declared.kinds.FileKind.{FileKind}
use Rattle.addr_kinds.specs.declared.kinds.FileKind.TheVariants.{Create, Open, Gopen, UnixConnect, UnixListen}
use Rattle.addr_kinds.specs.declared.kinds.HostKind.{HostKind}
use Rattle.addr_kinds.specs.declared.kinds.HostKind.TheVariants.{Tcp, Udp, UdpSendto}
use Rattle.addr_kinds.specs.declared.kinds.PortKind.{PortKind}
use Rattle.addr_kinds.specs.declared.kinds.PortKind.TheVariants.{TcpListen, UdpListen, UdpRecvfrom, UdpRecv}
use Rattle.addr_kinds.specs.declared.kinds.Kind.{Kind}
use Rattle.addr_kinds.specs.declared.kinds.Kind.TheVariants as kind
use Rattle.addr_kinds.specs.Rules.{is_name, is_host, is_named_host, is_requested_host, port_from, command_words, is_command_line}

-- a count or a place that is reported stays at the greatest number of 32 bits
abbrev pub counted : ℕ → ℕ
counted n = min n (2 ^ 32 - 1)

-- how many parameters a kind has; `Pipe` may also have none
abbrev pub wanted : Kind → ℕ
wanted (kind.Stream stream) = 0
wanted (kind.File file) = 1
wanted kind.Pipe = 1
wanted (kind.Host host family) = 2
wanted (kind.Port port family) = 1
wanted kind.Exec = 1
wanted kind.System = 1
wanted (kind.Socks named) = 3
wanted kind.Proxy = 3

-- the value of the parameter at this place, where it has one
abbrev pub parameter : {A : Type 0} → ℕ → Option A → Result A KindFault
parameter place (Some value) = Ok value
parameter place None = Err (BadParameter place)

-- the text at this place, where it passes its test
abbrev pub passed : ℕ → Bool → List ℕ → Result (List ℕ) KindFault
passed place test text = parameter place (only_if test text)

-- what a kind of standard stream makes
abbrev pub stream_target : StreamKind → Target
stream_target Stdio = target.Stdio
stream_target Stdin = target.Stdin
stream_target Stdout = target.Stdout
stream_target Stderr = target.Stderr

-- what a kind with a name makes
abbrev pub file_target : FileKind → List ℕ → Target
file_target Create name = target.Create name
file_target Open name = target.FileAt name
file_target Gopen name = target.GenericOpen name
file_target UnixConnect name = target.UnixConnect name
file_target UnixListen name = target.UnixListen name

-- what a kind with a host and a port makes
abbrev pub host_target : HostKind → Family → List ℕ → ℕ → Target
host_target Tcp family host port = target.Tcp family host port
host_target Udp family host port = target.Udp family host port
host_target UdpSendto family host port = target.UdpSendto family host port

-- what a kind with a port makes
abbrev pub port_target : PortKind → Family → ℕ → Target
port_target TcpListen family port = target.TcpListen family port
port_target UdpListen family port = target.UdpListen family port
port_target UdpRecvfrom family port = target.UdpRecvfrom family port
port_target UdpRecv family port = target.UdpRecv family port

-- where peers are waited for, port 0 lets the system choose
abbrev pub least_port : PortKind → ℕ
least_port TcpListen = 0
least_port UdpListen = 0
least_port UdpRecvfrom = 0
least_port UdpRecv = 1

-- SOCKS4 sends an address, SOCKS4A a name
abbrev pub is_socks_host : Bool → List ℕ → Bool
is_socks_host false host = is_host V4 host
is_socks_host true host = is_named_host host

-- what the parameters of a kind make, or the first that is wrong
unfoldable pub target_of : Kind → List (List ℕ) → Result Target KindFault
target_of (kind.Stream stream) [] = Ok (stream_target stream)
target_of (kind.File file) (text ∷ []) = do
  name ← passed 1 (is_name text) text
  Ok (file_target file name)
target_of kind.Pipe [] = Ok target.Echo
target_of kind.Pipe (text ∷ []) = do
  name ← passed 1 (is_name text) text
  Ok (target.NamedPipe name)
target_of (kind.Host connects family) (text ∷ digits ∷ []) = do
  host ← passed 1 (is_host family text) text
  port ← parameter 2 (port_from 1 digits)
  Ok (host_target connects family host port)
target_of (kind.Port waits family) (digits ∷ []) = do
  port ← parameter 1 (port_from (least_port waits) digits)
  Ok (port_target waits family port)
target_of kind.Exec (text ∷ []) = do
  line ← passed 1 (is_command_line text) text
  Ok (target.Exec (command_words line))
target_of kind.System (text ∷ []) = do
  command ← passed 1 (is_name text) text
  Ok (target.System command)
target_of (kind.Socks named) (relay ∷ text ∷ digits ∷ []) = do
  server ← passed 1 (is_host Any relay) relay
  host ← passed 2 (is_socks_host named text) text
  port ← parameter 3 (port_from 1 digits)
  Ok (target.Socks named server host port)
target_of kind.Proxy (relay ∷ text ∷ digits ∷ []) = do
  server ← passed 1 (is_host Any relay) relay
  host ← passed 2 (is_requested_host text) text
  port ← parameter 3 (port_from 1 digits)
  Ok (target.Proxy server host port)
target_of kind params = Err (Parameters (wanted kind) (counted (length params)))
