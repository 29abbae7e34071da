-- The kinds of addresses that the relay offers, and those of the manual page that it leaves out.
use Rattle.std.specs.Prelude.{ℕ, Bool, true, false, ◌||◌, nat_le, ◌&&◌, List, [], ◌∷◌, map, Option, Some, None, codes, if◌then◌else◌}
use Rattle.std.specs.Borrow.{Bor}
use Rattle.std.specs.List.{list_any}
use Rattle.std.specs.Str.{byte}
use Prim.Native.String.{String}
use Rattle.relay_model.specs.declared.commands.Family.TheVariants.{Any, V4, V6}
use Rattle.relay_model.specs.{Target}
use Rattle.relay_model.specs.declared.commands.Target.TheVariants as target
use Rattle.option_table.specs.{Group, is_listed}
use Rattle.option_table.specs.declared.rows.Group.TheVariants.{Relay, File, Named, Socket, Tcp, Bind, Retry, Listen, Range, Child, Socks, Proxy}
use Rattle.addr_kinds.specs.declared.uses.Asked.{Asked}
use Rattle.addr_kinds.specs.declared.uses.Asked.TheVariants.{Reading, Writing}
use Rattle.addr_kinds.specs.declared.uses.Uses.{Uses}
use Rattle.addr_kinds.specs.declared.uses.Uses.TheVariants as uses
use Rattle.addr_kinds.specs.declared.kinds.StreamKind.TheVariants.{Stdio, Stdin, Stdout, Stderr}
use Rattle.addr_kinds.specs.declared.kinds.FileKind.TheVariants.{Create, Open, Gopen, UnixConnect, UnixListen}
use Rattle.addr_kinds.specs.declared.kinds.HostKind.TheVariants as host
use Rattle.addr_kinds.specs.declared.kinds.PortKind.TheVariants.{TcpListen, UdpListen, UdpRecvfrom, UdpRecv}
use Rattle.addr_kinds.specs.declared.kinds.Kind.{Kind}
use Rattle.addr_kinds.specs.declared.kinds.Kind.TheVariants as kind
use Rattle.addr_kinds.specs.declared.kinds.KindRow.{KindRow}

-- what is known of a kind: the rule of its parameters, its uses, and the groups of its options
pub record KnownKind : Type 0 where
  pub kind : Kind
  pub uses : Uses
  pub groups : List Group

-- the keywords of a kind, and what is known of it
pub record NamedKind : Type 0 where
  pub keywords : List (List ℕ)
  pub known : KnownKind

-- what is known of a kind, as the program keeps it
abbrev pub known_of : KindRow → KnownKind
known_of row = record { kind = row.kind; uses = row.uses; groups = row.groups.now }

-- a row of the program's own table
abbrev pub as_named : Bor (List (Bor (List ℕ))) × KindRow → NamedKind
as_named r = record { keywords = map (λ one. one.now) r.0.now; known = known_of r.1 }

-- a row of the table: keywords, kind, uses and groups
abbrev pub offer : List String → Kind → Uses → List Group → NamedKind
offer keywords kind uses groups =
    record { keywords = map codes keywords; known = record { kind = kind; uses = uses; groups = groups } }

-- the kinds that are offered
unfoldable pub known_kinds : List NamedKind
known_kinds =
    offer ("STDIO" ∷ []) (kind.Stream Stdio) uses.Any (Relay ∷ [])
    ∷ offer ("STDIN" ∷ []) (kind.Stream Stdin) uses.AllButWriting (Relay ∷ [])
    ∷ offer ("STDOUT" ∷ []) (kind.Stream Stdout) uses.AllButReading (Relay ∷ [])
    ∷ offer ("STDERR" ∷ []) (kind.Stream Stderr) uses.AllButReading (Relay ∷ [])
    ∷ offer ("CREATE" ∷ []) (kind.File Create) uses.OnlyWriting (Relay ∷ Named ∷ [])
    ∷ offer ("OPEN" ∷ []) (kind.File Open) uses.Any (Relay ∷ Named ∷ File ∷ [])
    ∷ offer ("GOPEN" ∷ []) (kind.File Gopen) uses.Any (Relay ∷ Named ∷ File ∷ [])
    ∷ offer ("PIPE" ∷ []) kind.Pipe uses.Any (Relay ∷ Named ∷ [])
    ∷ offer ("TCP" ∷ "TCP-CONNECT" ∷ []) (kind.Host host.Tcp Any) uses.Any (Relay ∷ Socket ∷ Tcp ∷ Retry ∷ [])
    ∷ offer ("TCP4" ∷ "TCP4-CONNECT" ∷ []) (kind.Host host.Tcp V4) uses.Any (Relay ∷ Socket ∷ Tcp ∷ Retry ∷ [])
    ∷ offer ("TCP6" ∷ "TCP6-CONNECT" ∷ []) (kind.Host host.Tcp V6) uses.Any (Relay ∷ Socket ∷ Tcp ∷ Retry ∷ [])
    ∷ offer ("TCP-LISTEN" ∷ "TCP-L" ∷ []) (kind.Port TcpListen Any) uses.Any (Relay ∷ Socket ∷ Tcp ∷ Retry ∷ Bind ∷ Listen ∷ Range ∷ [])
    ∷ offer ("TCP4-LISTEN" ∷ "TCP4-L" ∷ []) (kind.Port TcpListen V4) uses.Any (Relay ∷ Socket ∷ Tcp ∷ Retry ∷ Bind ∷ Listen ∷ Range ∷ [])
    ∷ offer ("TCP6-LISTEN" ∷ "TCP6-L" ∷ []) (kind.Port TcpListen V6) uses.Any (Relay ∷ Socket ∷ Tcp ∷ Retry ∷ Bind ∷ Listen ∷ Range ∷ [])
    ∷ offer ("UDP" ∷ []) (kind.Host host.Udp Any) uses.Any (Relay ∷ Socket ∷ Bind ∷ [])
    ∷ offer ("UDP4" ∷ []) (kind.Host host.Udp V4) uses.Any (Relay ∷ Socket ∷ Bind ∷ [])
    ∷ offer ("UDP6" ∷ []) (kind.Host host.Udp V6) uses.Any (Relay ∷ Socket ∷ Bind ∷ [])
    ∷ offer ("UDP-LISTEN" ∷ "UDP-L" ∷ []) (kind.Port UdpListen Any) uses.Any (Relay ∷ Socket ∷ Retry ∷ Bind ∷ Listen ∷ Range ∷ [])
    ∷ offer ("UDP4-LISTEN" ∷ "UDP4-L" ∷ []) (kind.Port UdpListen V4) uses.Any (Relay ∷ Socket ∷ Retry ∷ Bind ∷ Listen ∷ Range ∷ [])
    ∷ offer ("UDP6-LISTEN" ∷ "UDP6-L" ∷ []) (kind.Port UdpListen V6) uses.Any (Relay ∷ Socket ∷ Retry ∷ Bind ∷ Listen ∷ Range ∷ [])
    ∷ offer ("UDP-RECVFROM" ∷ []) (kind.Port UdpRecvfrom Any) uses.Any (Relay ∷ Socket ∷ Retry ∷ Bind ∷ Listen ∷ Range ∷ [])
    ∷ offer ("UDP4-RECVFROM" ∷ []) (kind.Port UdpRecvfrom V4) uses.Any (Relay ∷ Socket ∷ Retry ∷ Bind ∷ Listen ∷ Range ∷ [])
    ∷ offer ("UDP6-RECVFROM" ∷ []) (kind.Port UdpRecvfrom V6) uses.Any (Relay ∷ Socket ∷ Retry ∷ Bind ∷ Listen ∷ Range ∷ [])
    ∷ offer ("UDP-RECV" ∷ []) (kind.Port UdpRecv Any) uses.OnlyReading (Relay ∷ Socket ∷ Bind ∷ [])
    ∷ offer ("UDP4-RECV" ∷ []) (kind.Port UdpRecv V4) uses.OnlyReading (Relay ∷ Socket ∷ Bind ∷ [])
    ∷ offer ("UDP6-RECV" ∷ []) (kind.Port UdpRecv V6) uses.OnlyReading (Relay ∷ Socket ∷ Bind ∷ [])
    ∷ offer ("UDP-SENDTO" ∷ []) (kind.Host host.UdpSendto Any) uses.Any (Relay ∷ Socket ∷ Bind ∷ [])
    ∷ offer ("UDP4-SENDTO" ∷ []) (kind.Host host.UdpSendto V4) uses.Any (Relay ∷ Socket ∷ Bind ∷ [])
    ∷ offer ("UDP6-SENDTO" ∷ []) (kind.Host host.UdpSendto V6) uses.Any (Relay ∷ Socket ∷ Bind ∷ [])
    ∷ offer ("UNIX-CONNECT" ∷ []) (kind.File UnixConnect) uses.Any (Relay ∷ Socket ∷ Named ∷ Retry ∷ [])
    ∷ offer ("UNIX-LISTEN" ∷ "UNIX-L" ∷ []) (kind.File UnixListen) uses.Any (Relay ∷ Socket ∷ Named ∷ Retry ∷ Listen ∷ [])
    ∷ offer ("EXEC" ∷ []) kind.Exec uses.Any (Relay ∷ Child ∷ [])
    ∷ offer ("SYSTEM" ∷ []) kind.System uses.Any (Relay ∷ Child ∷ [])
    ∷ offer ("SOCKS4" ∷ []) (kind.Socks false) uses.Any (Relay ∷ Socket ∷ Tcp ∷ Retry ∷ Socks ∷ [])
    ∷ offer ("SOCKS4A" ∷ []) (kind.Socks true) uses.Any (Relay ∷ Socket ∷ Tcp ∷ Retry ∷ Socks ∷ [])
    ∷ offer ("PROXY" ∷ []) kind.Proxy uses.Any (Relay ∷ Socket ∷ Tcp ∷ Retry ∷ Proxy ∷ [])
    ∷ []

-- the kinds of the manual page that are left out
unfoldable pub left_out_kinds : List (List ℕ)
left_out_kinds =
    codes "PTY" ∷ codes "READLINE" ∷ codes "OPENSSL" ∷ codes "OPENSSL-CONNECT" ∷ codes "OPENSSL-LISTEN"
    ∷ codes "SSL" ∷ codes "TUN" ∷ codes "INTERFACE" ∷ codes "FD" ∷ codes "IP-SENDTO" ∷ codes "IP-DATAGRAM"
    ∷ codes "IP-RECVFROM" ∷ codes "IP-RECV" ∷ codes "SCTP" ∷ codes "SCTP-CONNECT" ∷ codes "SCTP-LISTEN"
    ∷ codes "VSOCK-CONNECT" ∷ codes "VSOCK-LISTEN" ∷ codes "UNIX-SENDTO" ∷ codes "UNIX-RECVFROM"
    ∷ codes "UNIX-RECV" ∷ codes "UNIX-CLIENT" ∷ codes "ABSTRACT-CONNECT" ∷ codes "ABSTRACT-LISTEN"
    ∷ codes "ABSTRACT-SENDTO" ∷ codes "ABSTRACT-RECVFROM" ∷ codes "ABSTRACT-RECV" ∷ codes "ABSTRACT-CLIENT"
    ∷ codes "UDP-DATAGRAM" ∷ codes "SOCKET-CONNECT" ∷ codes "SOCKET-LISTEN" ∷ codes "SOCKET-SENDTO"
    ∷ codes "SOCKET-DATAGRAM" ∷ codes "SOCKET-RECVFROM" ∷ codes "SOCKET-RECV" ∷ []

-- what is known of the first kind with this keyword
unfoldable pub row_of : List NamedKind → List ℕ → Option KnownKind
row_of [] keyword = None
row_of (named ∷ rest) keyword =
    if is_listed named.keywords keyword then Some named.known else row_of rest keyword

-- the first byte is a digit
abbrev pub begins_with_digit : List ℕ → Bool
begins_with_digit [] = false
begins_with_digit (b ∷ bytes) = nat_le (byte "0") b && nat_le b (byte "9")

-- a number in place of a keyword is a file descriptor
unfoldable pub is_left_out : List ℕ → Bool
is_left_out keyword = begins_with_digit keyword || is_listed left_out_kinds keyword

-- the uses that a kind is offered for
abbrev pub offers : Uses → Asked → Bool
offers uses.Any asked = true
offers uses.AllButWriting Writing = false
offers uses.AllButWriting asked = true
offers uses.AllButReading Reading = false
offers uses.AllButReading asked = true
offers uses.OnlyReading Reading = true
offers uses.OnlyReading asked = false
offers uses.OnlyWriting Writing = true
offers uses.OnlyWriting asked = false

-- whether two groups are the same
abbrev pub same_group : Group → Group → Bool
same_group Relay Relay = true
same_group File File = true
same_group Named Named = true
same_group Socket Socket = true
same_group Tcp Tcp = true
same_group Bind Bind = true
same_group Retry Retry = true
same_group Listen Listen = true
same_group Range Range = true
same_group Child Child = true
same_group Socks Socks = true
same_group Proxy Proxy = true
same_group one other = false

-- whether the group is among these
abbrev pub includes : List Group → Group → Bool
includes groups group = list_any (λ one. same_group one group) groups
