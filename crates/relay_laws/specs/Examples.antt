-- Whole journals, oldest act last, with the commands that they are of: what each is judged to be, and that a changed one
-- isn't legal; and two in which the same reaches one session. The names and hosts of the commands are left empty, since
-- no definition looks at them.
use Rattle.std.specs.Prelude.{◌≡◌, drop, ℕ, ◌-◌, ◌^◌, Bool, true, false, List, [], ◌∷◌, Some, None}
use Rattle.relay_model.specs.{Side, Part, Half, Place, ReadyAt, Listed, Act, Config, Target, Single, Options, default_options as plain, outcome}
use Rattle.relay_model.specs.{until_of, Legal}
use Rattle.relay_model.specs.declared.places.Side.TheVariants.{Left, Right}
use Rattle.relay_model.specs.declared.places.Part.TheVariants.{Both, Reading, Writing}
use Rattle.relay_model.specs.declared.places.Half.TheVariants.{ToRead, ToWrite}
use Rattle.relay_model.specs.declared.acts.Shut.TheVariants as shuts
use Rattle.relay_model.specs.declared.acts.Why.TheVariants as whys
use Rattle.relay_model.specs.declared.acts.Peer.TheVariants as peers
use Rattle.relay_model.specs.declared.acts.Act.TheVariants.{Turn, Opened, OpenLater, Listening, Accepted, NoPeer, Read, ReadEmpty, ReadEnd, ReadNotYet, ReadFault, Wrote, WriteNotYet, WriteFault, Shut, Closed}
use Rattle.relay_model.specs.declared.commands.Ways.TheVariants as ways
use Rattle.relay_model.specs.declared.commands.Dump.TheVariants as dumps
use Rattle.relay_model.specs.declared.commands.Conv.TheVariants as convs
use Rattle.relay_model.specs.declared.commands.Family.TheVariants as families
use Rattle.relay_model.specs.declared.commands.Range.TheVariants as ranges
use Rattle.relay_model.specs.declared.commands.Target.TheVariants as targets
use Rattle.relay_model.specs.declared.commands.Address.TheVariants as addresses
use Rattle.relay_model.specs.declared.outcomes.RunOutcome.TheVariants as outcomes
use Rattle.relay_laws.specs.Stories.{Own, Turned, Ending, story}

-- a place or door
abbrev pub at : ℕ → Side → Part → Bool → Place
at s side part door = record { session = s; side = side; part = part; door = door }

-- an entry of a turn
abbrev pub named : Place → Half → ReadyAt
named p half = record { place = p; half = half }

-- a turn's list of these entries
abbrev pub listed : List ReadyAt → Listed
listed entries = record { entries = entries; room = 0 }

-- a single address
abbrev pub one : Target → Options → Single
one target options = record { target = target; options = options }

-- ---- three bytes and an end

-- -u STDIN STDOUT
abbrev pub plain_run_command : Config
plain_run_command = record { block = 8192; closing = 500; idle = 0; ways = ways.OnlyRight; dump = dumps.Off; sloppy = false; left = addresses.One (one targets.Stdin plain); right = addresses.One (one targets.Stdout plain) }

-- three bytes and an end
abbrev pub plain_run : List Act
plain_run =
    Closed (at 0 Right Writing false) whys.Finished
    ∷ Closed (at 0 Left Reading false) whys.Finished
    ∷ Shut (at 0 Right Writing false) shuts.Close
    ∷ ReadEnd (at 0 Left Reading false)
    ∷ Wrote (at 0 Right Writing false) (97 ∷ 98 ∷ 99 ∷ [])
    ∷ Read (at 0 Left Reading false) (97 ∷ 98 ∷ 99 ∷ [])
    ∷ Opened (at 0 Right Writing false)
    ∷ Opened (at 0 Left Reading false)
    ∷ []

-- a byte is changed on its way
abbrev pub plain_run_wrong : List Act
plain_run_wrong =
    Closed (at 0 Right Writing false) whys.Finished
    ∷ Closed (at 0 Left Reading false) whys.Finished
    ∷ Shut (at 0 Right Writing false) shuts.Close
    ∷ ReadEnd (at 0 Left Reading false)
    ∷ Wrote (at 0 Right Writing false) (97 ∷ 98 ∷ 100 ∷ [])
    ∷ Read (at 0 Left Reading false) (97 ∷ 98 ∷ 99 ∷ [])
    ∷ Opened (at 0 Right Writing false)
    ∷ Opened (at 0 Left Reading false)
    ∷ []

-- ---- a peer that is refused, and one that is served

-- -u TCP-LISTEN:9000,range=10.0.0.0/8 STDOUT
abbrev pub refusal_command : Config
refusal_command = record { block = 8192; closing = 500; idle = 0; ways = ways.OnlyRight; dump = dumps.Off; sloppy = false; left = addresses.One (one (targets.TcpListen families.Any 9000) (record plain { admission = record plain.admission { range = Some (ranges.V4 (10 ∷ 0 ∷ 0 ∷ 0 ∷ []) (255 ∷ 0 ∷ 0 ∷ 0 ∷ [])) } })); right = addresses.One (one targets.Stdout plain) }

-- a peer that is refused, and one that is served
abbrev pub refusal : List Act
refusal =
    Closed (at 0 Right Writing false) whys.Finished
    ∷ Closed (at 0 Left Reading false) whys.Finished
    ∷ Shut (at 0 Right Writing false) shuts.Close
    ∷ ReadEnd (at 0 Left Reading false)
    ∷ Wrote (at 0 Right Writing false) (107 ∷ [])
    ∷ Read (at 0 Left Reading false) (107 ∷ [])
    ∷ Opened (at 0 Right Writing false)
    ∷ Closed (at 0 Left Reading true) whys.Served
    ∷ Accepted (at 0 Left Reading false) (peers.V4 (10 ∷ 1 ∷ 2 ∷ 3 ∷ []) 40001)
    ∷ Closed (at 0 Left Reading false) whys.Refused
    ∷ Accepted (at 0 Left Reading false) (peers.V4 (11 ∷ 0 ∷ 0 ∷ 1 ∷ []) 40000)
    ∷ Turn None 5 (listed (named (at 0 Left Reading true) ToRead ∷ [])) false
    ∷ NoPeer (at 0 Left Reading true)
    ∷ Listening (at 0 Left Reading true)
    ∷ []

-- the door serves a peer that is not permitted
abbrev pub refusal_wrong : List Act
refusal_wrong =
    Closed (at 0 Right Writing false) whys.Finished
    ∷ Closed (at 0 Left Reading false) whys.Finished
    ∷ Shut (at 0 Right Writing false) shuts.Close
    ∷ ReadEnd (at 0 Left Reading false)
    ∷ Wrote (at 0 Right Writing false) (107 ∷ [])
    ∷ Read (at 0 Left Reading false) (107 ∷ [])
    ∷ Opened (at 0 Right Writing false)
    ∷ Closed (at 0 Left Reading true) whys.Served
    ∷ Accepted (at 0 Left Reading false) (peers.V4 (10 ∷ 1 ∷ 2 ∷ 3 ∷ []) 40001)
    ∷ Closed (at 0 Left Reading false) whys.Refused
    ∷ Closed (at 0 Left Reading true) whys.Served
    ∷ Accepted (at 0 Left Reading false) (peers.V4 (11 ∷ 0 ∷ 0 ∷ 1 ∷ []) 40000)
    ∷ Turn None 5 (listed (named (at 0 Left Reading true) ToRead ∷ [])) false
    ∷ NoPeer (at 0 Left Reading true)
    ∷ Listening (at 0 Left Reading true)
    ∷ []

-- ---- a session of a command with `fork`, and its end

-- -g -b3 -t0.500 -T0.030 -u -s UDP-LISTEN:9,ignoreeof,fork,lowport,escape=13,retry=3,interval=0.007,max-children=2,stop-after=1 UDP-RECVFROM:9,crnl,ignoreeof,retry=1,interval=0.001
abbrev pub forked_command : Config
forked_command = record { block = 3; closing = 500; idle = 30; ways = ways.OnlyRight; dump = dumps.Off; sloppy = true; left = addresses.One (one (targets.UdpListen families.Any 9) (record plain { input = record plain.input { ignoreeof = true; escape = Some 13 }; sessions = record plain.sessions { fork = true; max_children = 2; stop_after = 1 }; admission = record plain.admission { lowport = true }; tries = record plain.tries { retry = 3; interval = 7 } })); right = addresses.One (one (targets.UdpRecvfrom families.Any 9) (record plain { conv = convs.Crnl; input = record plain.input { ignoreeof = true }; tries = record plain.tries { retry = 1; interval = 1 } })) }

-- a session of `fork` and its end
abbrev pub forked : List Act
forked =
    Closed (at 0 Right Writing false) whys.Finished
    ∷ Closed (at 0 Left Reading false) whys.Finished
    ∷ Shut (at 0 Right Writing false) shuts.Nothing
    ∷ Read (at 0 Left Reading false) (13 ∷ 99 ∷ 13 ∷ [])
    ∷ Turn (Some 30) 1 (listed (named (at 0 Left Reading false) ToRead ∷ [])) false
    ∷ ReadNotYet (at 0 Left Reading false)
    ∷ Closed (at 0 Right Writing true) whys.Served
    ∷ Closed (at 0 Left Both true) whys.Served
    ∷ Accepted (at 0 Right Writing false) (peers.V4 (10 ∷ 1 ∷ 2 ∷ 3 ∷ []) 5)
    ∷ Listening (at 0 Right Writing true)
    ∷ Accepted (at 0 Left Reading false) (peers.V4 (10 ∷ 1 ∷ 2 ∷ 3 ∷ []) 80)
    ∷ Listening (at 0 Left Both true)
    ∷ []

-- a second peer is accepted where one is to be served
abbrev pub forked_wrong : List Act
forked_wrong =
    Closed (at 0 Right Writing false) whys.Finished
    ∷ Closed (at 0 Left Reading false) whys.Finished
    ∷ Shut (at 0 Right Writing false) shuts.Nothing
    ∷ Read (at 0 Left Reading false) (13 ∷ 99 ∷ 13 ∷ [])
    ∷ Turn (Some 30) 1 (listed (named (at 0 Left Reading false) ToRead ∷ [])) false
    ∷ ReadNotYet (at 0 Left Reading false)
    ∷ Closed (at 0 Right Writing true) whys.Served
    ∷ Accepted (at 1 Left Reading false) (peers.V4 (10 ∷ 1 ∷ 2 ∷ 3 ∷ []) 80)
    ∷ Closed (at 0 Left Both true) whys.Served
    ∷ Accepted (at 0 Right Writing false) (peers.V4 (10 ∷ 1 ∷ 2 ∷ 3 ∷ []) 5)
    ∷ Listening (at 0 Right Writing true)
    ∷ Accepted (at 0 Left Reading false) (peers.V4 (10 ∷ 1 ∷ 2 ∷ 3 ∷ []) 80)
    ∷ Listening (at 0 Left Both true)
    ∷ []

-- ---- a session that is cut by the closing time

-- -g -b2 -t0.001 -T0.000 SOCKS4A:s:h:80,escape=10,retry=2 TCP-LISTEN:80,shut-none,interval=0.002,range=10.0.0.0/8!!CREATE:f,cr,ignoreeof,null-eof,escape=13,shut-none
abbrev pub closing_command : Config
closing_command = record { block = 2; closing = 1; idle = 0; ways = ways.Two; dump = dumps.Off; sloppy = false; left = addresses.One (one (targets.Socks true [] [] 80) (record plain { input = record plain.input { escape = Some 10 }; tries = record plain.tries { retry = 2 } })); right = addresses.Two (one (targets.TcpListen families.Any 80) (record plain { shut = Some shuts.Nothing; tries = record plain.tries { interval = 2 }; admission = record plain.admission { range = Some (ranges.V4 (10 ∷ 0 ∷ 0 ∷ 0 ∷ []) (255 ∷ 0 ∷ 0 ∷ 0 ∷ [])) } })) (one (targets.Create []) (record plain { conv = convs.Cr; input = record plain.input { ignoreeof = true; null_eof = true; escape = Some 13 }; shut = Some shuts.Nothing })) }

-- a cut by the closing time
abbrev pub closing : List Act
closing =
    Closed (at 0 Right Writing false) whys.ClosingTime
    ∷ Closed (at 0 Left Both false) whys.ClosingTime
    ∷ Closed (at 0 Right Reading false) whys.ClosingTime
    ∷ Turn (Some 1) 1 (listed (named (at 0 Right Reading false) ToRead ∷ [])) false
    ∷ Shut (at 0 Right Writing false) shuts.Nothing
    ∷ Read (at 0 Left Both false) (10 ∷ [])
    ∷ Turn (Some 0) 0 (listed ([])) false
    ∷ Wrote (at 0 Right Writing false) (97 ∷ 99 ∷ [])
    ∷ Read (at 0 Left Both false) (97 ∷ 99 ∷ [])
    ∷ ReadNotYet (at 0 Right Reading false)
    ∷ Opened (at 0 Right Writing false)
    ∷ Closed (at 0 Right Reading true) whys.Served
    ∷ Accepted (at 0 Right Reading false) peers.Local
    ∷ Listening (at 0 Right Reading true)
    ∷ Opened (at 0 Left Both false)
    ∷ Turn None 0 (listed (named (at 0 Left Both false) ToRead ∷ named (at 0 Left Both false) ToWrite ∷ [])) false
    ∷ OpenLater (at 0 Left Both false)
    ∷ []

-- it is cut before the moment is reached
abbrev pub closing_wrong : List Act
closing_wrong =
    Closed (at 0 Right Writing false) whys.ClosingTime
    ∷ Closed (at 0 Left Both false) whys.ClosingTime
    ∷ Closed (at 0 Right Reading false) whys.ClosingTime
    ∷ Shut (at 0 Right Writing false) shuts.Nothing
    ∷ Read (at 0 Left Both false) (10 ∷ [])
    ∷ Turn (Some 0) 0 (listed ([])) false
    ∷ Wrote (at 0 Right Writing false) (97 ∷ 99 ∷ [])
    ∷ Read (at 0 Left Both false) (97 ∷ 99 ∷ [])
    ∷ ReadNotYet (at 0 Right Reading false)
    ∷ Opened (at 0 Right Writing false)
    ∷ Closed (at 0 Right Reading true) whys.Served
    ∷ Accepted (at 0 Right Reading false) peers.Local
    ∷ Listening (at 0 Right Reading true)
    ∷ Opened (at 0 Left Both false)
    ∷ Turn None 0 (listed (named (at 0 Left Both false) ToRead ∷ named (at 0 Left Both false) ToWrite ∷ [])) false
    ∷ OpenLater (at 0 Left Both false)
    ∷ []

-- ---- a session that is cut for inactivity

-- -g -b8192 -t0.000 -T0.003 -u OPEN:f,retry=1,interval=0.007 TCP-LISTEN:80,ignoreeof,retry=1,interval=0.002
abbrev pub idle_command : Config
idle_command = record { block = 8192; closing = 0; idle = 3; ways = ways.OnlyRight; dump = dumps.Off; sloppy = false; left = addresses.One (one (targets.FileAt []) (record plain { tries = record plain.tries { retry = 1; interval = 7 } })); right = addresses.One (one (targets.TcpListen families.Any 80) (record plain { input = record plain.input { ignoreeof = true }; tries = record plain.tries { retry = 1; interval = 2 } })) }

-- a cut for inactivity
abbrev pub idle : List Act
idle =
    Closed (at 0 Right Writing false) whys.Idle
    ∷ Closed (at 0 Left Reading false) whys.Idle
    ∷ Turn (Some 3) 3 (listed ([])) false
    ∷ ReadNotYet (at 0 Left Reading false)
    ∷ Closed (at 0 Right Writing true) whys.Served
    ∷ Accepted (at 0 Right Writing false) (peers.V4 (10 ∷ 1 ∷ 2 ∷ 3 ∷ []) 80)
    ∷ Listening (at 0 Right Writing true)
    ∷ Opened (at 0 Left Reading false)
    ∷ []

-- it is cut a millisecond early
abbrev pub idle_wrong : List Act
idle_wrong =
    Closed (at 0 Right Writing false) whys.Idle
    ∷ Closed (at 0 Left Reading false) whys.Idle
    ∷ Turn (Some 3) 2 (listed ([])) false
    ∷ ReadNotYet (at 0 Left Reading false)
    ∷ Closed (at 0 Right Writing true) whys.Served
    ∷ Accepted (at 0 Right Writing false) (peers.V4 (10 ∷ 1 ∷ 2 ∷ 3 ∷ []) 80)
    ∷ Listening (at 0 Right Writing true)
    ∷ Opened (at 0 Left Reading false)
    ∷ []

-- ---- a direction that a fault breaks, with `-s`

-- -g -b1 -t0.500 -T0.000 -s UDP-LISTEN:9,cr,interval=0.007,range=10.0.0.0/8 UDP:127.0.0.1:9,crnl,escape=10,shut-down,retry=3,interval=0.000
abbrev pub broken_command : Config
broken_command = record { block = 1; closing = 500; idle = 0; ways = ways.Two; dump = dumps.Off; sloppy = true; left = addresses.One (one (targets.UdpListen families.Any 9) (record plain { conv = convs.Cr; tries = record plain.tries { interval = 7 }; admission = record plain.admission { range = Some (ranges.V4 (10 ∷ 0 ∷ 0 ∷ 0 ∷ []) (255 ∷ 0 ∷ 0 ∷ 0 ∷ [])) } })); right = addresses.One (one (targets.Udp families.Any [] 9) (record plain { conv = convs.Crnl; input = record plain.input { escape = Some 10 }; shut = Some shuts.Down; tries = record plain.tries { retry = 3; interval = 0 } })) }

-- a fault with `-s`
abbrev pub broken : List Act
broken =
    Closed (at 0 Left Both false) whys.ClosingTime
    ∷ Closed (at 0 Right Both false) whys.ClosingTime
    ∷ Turn (Some 509) 509 (listed ([])) false
    ∷ ReadNotYet (at 0 Right Both false)
    ∷ Turn (Some 15) 15 (listed ([])) false
    ∷ ReadEmpty (at 0 Right Both false)
    ∷ Turn (Some 509) 15 (listed (named (at 0 Right Both false) ToRead ∷ [])) false
    ∷ WriteFault (at 0 Right Both false)
    ∷ Turn None 9 (listed (named (at 0 Right Both false) ToWrite ∷ [])) false
    ∷ WriteNotYet (at 0 Right Both false)
    ∷ Read (at 0 Left Both false) (10 ∷ [])
    ∷ Turn None 9 (listed (named (at 0 Left Both false) ToRead ∷ [])) false
    ∷ ReadNotYet (at 0 Left Both false)
    ∷ ReadNotYet (at 0 Right Both false)
    ∷ ReadEmpty (at 0 Right Both false)
    ∷ Opened (at 0 Right Both false)
    ∷ Closed (at 0 Left Both true) whys.Served
    ∷ Accepted (at 0 Left Both false) (peers.V4 (10 ∷ 1 ∷ 2 ∷ 3 ∷ []) 5)
    ∷ Listening (at 0 Left Both true)
    ∷ []

-- -g -b1 -t0.500 -T0.000 UDP-LISTEN:9,cr,interval=0.007,range=10.0.0.0/8 UDP:127.0.0.1:9,crnl,escape=10,shut-down,retry=3,interval=0.000
abbrev pub broken_other : Config
broken_other = record { block = 1; closing = 500; idle = 0; ways = ways.Two; dump = dumps.Off; sloppy = false; left = addresses.One (one (targets.UdpListen families.Any 9) (record plain { conv = convs.Cr; tries = record plain.tries { interval = 7 }; admission = record plain.admission { range = Some (ranges.V4 (10 ∷ 0 ∷ 0 ∷ 0 ∷ []) (255 ∷ 0 ∷ 0 ∷ 0 ∷ [])) } })); right = addresses.One (one (targets.Udp families.Any [] 9) (record plain { conv = convs.Crnl; input = record plain.input { escape = Some 10 }; shut = Some shuts.Down; tries = record plain.tries { retry = 3; interval = 0 } })) }

-- ---- two datagrams whose borders are kept

-- -g -b3 -t0.500 -T0.000 -U UDP:127.0.0.1:9,null-eof,interval=0.000 UDP:127.0.0.1:9,ignoreeof,interval=0.000
abbrev pub packets_command : Config
packets_command = record { block = 3; closing = 500; idle = 0; ways = ways.OnlyLeft; dump = dumps.Off; sloppy = false; left = addresses.One (one (targets.Udp families.Any [] 9) (record plain { input = record plain.input { null_eof = true }; tries = record plain.tries { interval = 0 } })); right = addresses.One (one (targets.Udp families.Any [] 9) (record plain { input = record plain.input { ignoreeof = true }; tries = record plain.tries { interval = 0 } })) }

-- two datagrams
abbrev pub packets : List Act
packets =
    Closed (at 0 Right Reading false) whys.Faulted
    ∷ Closed (at 0 Left Writing false) whys.Faulted
    ∷ ReadFault (at 0 Right Reading false)
    ∷ Wrote (at 0 Left Writing false) (97 ∷ 98 ∷ [])
    ∷ Turn None 4 (listed (named (at 0 Left Writing false) ToWrite ∷ [])) false
    ∷ WriteNotYet (at 0 Left Writing false)
    ∷ Read (at 0 Right Reading false) (97 ∷ 98 ∷ [])
    ∷ Wrote (at 0 Left Writing false) (98 ∷ 10 ∷ 99 ∷ [])
    ∷ Turn None 2 (listed (named (at 0 Left Writing false) ToWrite ∷ [])) false
    ∷ WriteNotYet (at 0 Left Writing false)
    ∷ Read (at 0 Right Reading false) (98 ∷ 10 ∷ 99 ∷ [])
    ∷ Opened (at 0 Right Reading false)
    ∷ Turn None 0 (listed (named (at 0 Right Reading false) ToRead ∷ [])) false
    ∷ OpenLater (at 0 Right Reading false)
    ∷ Opened (at 0 Left Writing false)
    ∷ []

-- a datagram is cut in two
abbrev pub packets_wrong : List Act
packets_wrong =
    Closed (at 0 Right Reading false) whys.Faulted
    ∷ Closed (at 0 Left Writing false) whys.Faulted
    ∷ ReadFault (at 0 Right Reading false)
    ∷ Wrote (at 0 Left Writing false) (97 ∷ 98 ∷ [])
    ∷ Turn None 4 (listed (named (at 0 Left Writing false) ToWrite ∷ [])) false
    ∷ WriteNotYet (at 0 Left Writing false)
    ∷ Read (at 0 Right Reading false) (97 ∷ 98 ∷ [])
    ∷ Wrote (at 0 Left Writing false) (98 ∷ 10 ∷ [])
    ∷ Turn None 2 (listed (named (at 0 Left Writing false) ToWrite ∷ [])) false
    ∷ WriteNotYet (at 0 Left Writing false)
    ∷ Read (at 0 Right Reading false) (98 ∷ 10 ∷ 99 ∷ [])
    ∷ Opened (at 0 Right Reading false)
    ∷ Turn None 0 (listed (named (at 0 Right Reading false) ToRead ∷ [])) false
    ∷ OpenLater (at 0 Right Reading false)
    ∷ Opened (at 0 Left Writing false)
    ∷ []

-- ---- two programs in which the same reaches one session

-- -u TCP4-LISTEN:9,fork STDOUT
abbrev pub pair_command : Config
pair_command = record { block = 8192; closing = 500; idle = 0; ways = ways.OnlyRight; dump = dumps.Off; sloppy = false; left = addresses.One (one (targets.TcpListen families.V4 9) (record plain { sessions = record plain.sessions { fork = true } })); right = addresses.One (one targets.Stdout plain) }

-- two sessions of `fork` that live at once
abbrev pub pair_begun : List Act
pair_begun =
    Opened (at 1 Right Writing false)
    ∷ Accepted (at 1 Left Reading false) (peers.V4 (10 ∷ 1 ∷ 2 ∷ 4 ∷ []) 81)
    ∷ Opened (at 0 Right Writing false)
    ∷ Accepted (at 0 Left Reading false) (peers.V4 (10 ∷ 1 ∷ 2 ∷ 3 ∷ []) 80)
    ∷ Listening (at 0 Left Both true)
    ∷ []

-- the other session is named by the turn
abbrev pub pair_quiet : List Act
pair_quiet =
    Wrote (at 1 Right Writing false) (97 ∷ [])
    ∷ Read (at 1 Left Reading false) (97 ∷ [])
    ∷ Turn None 5 (listed (named (at 0 Left Reading false) ToRead ∷ named (at 1 Left Reading false) ToRead ∷ [])) false
    ∷ NoPeer (at 0 Left Both true)
    ∷ ReadNotYet (at 0 Left Reading false)
    ∷ ReadNotYet (at 1 Left Reading false)
    ∷ pair_begun

-- the other session reads and writes, so the turn doesn't wait
abbrev pub pair_busy : List Act
pair_busy =
    Wrote (at 1 Right Writing false) (97 ∷ [])
    ∷ Wrote (at 0 Right Writing false) (98 ∷ [])
    ∷ Read (at 0 Left Reading false) (98 ∷ [])
    ∷ Read (at 1 Left Reading false) (97 ∷ [])
    ∷ Turn (Some 0) 5 (listed (named (at 1 Left Reading false) ToRead ∷ [])) false
    ∷ NoPeer (at 0 Left Both true)
    ∷ ReadNotYet (at 1 Left Reading false)
    ∷ Wrote (at 0 Right Writing false) (99 ∷ [])
    ∷ Read (at 0 Left Reading false) (99 ∷ [])
    ∷ pair_begun

-- ---- what they are judged to be

-- each example is legal, ends and waits as is written here
pub record ExamplesAreJudged : Type 0 where
  pub plain_run_legal : Legal plain_run_command (2 ^ 64 - 1) plain_run
  pub plain_run_outcome : outcome plain_run_command plain_run ≡ Some (outcomes.Ended whys.Finished)
  pub plain_run_until : until_of plain_run_command (drop 6 plain_run) ≡ Some 0
  pub plain_run_not : Legal plain_run_command (2 ^ 64 - 1) plain_run_wrong → ⊥
  pub refusal_legal : Legal refusal_command (2 ^ 64 - 1) refusal
  pub refusal_outcome : outcome refusal_command refusal ≡ Some (outcomes.Ended whys.Finished)
  pub refusal_until : until_of refusal_command (drop 12 refusal) ≡ None
  pub refusal_not : Legal refusal_command (2 ^ 64 - 1) refusal_wrong → ⊥
  pub forked_legal : Legal forked_command (2 ^ 64 - 1) forked
  pub forked_outcome : outcome forked_command forked ≡ Some (outcomes.Ended whys.Served)
  pub forked_until : until_of forked_command (drop 5 forked) ≡ Some 30
  pub forked_not : Legal forked_command (2 ^ 64 - 1) forked_wrong → ⊥
  pub closing_legal : Legal closing_command (2 ^ 64 - 1) closing
  pub closing_outcome : outcome closing_command closing ≡ Some (outcomes.Ended whys.ClosingTime)
  pub closing_until : until_of closing_command (drop 16 closing) ≡ None
  pub closing_until_then : until_of closing_command (drop 4 closing) ≡ Some 1
  pub closing_not : Legal closing_command (2 ^ 64 - 1) closing_wrong → ⊥
  pub idle_legal : Legal idle_command (2 ^ 64 - 1) idle
  pub idle_outcome : outcome idle_command idle ≡ Some (outcomes.Ended whys.Idle)
  pub idle_until : until_of idle_command (drop 3 idle) ≡ Some 3
  pub idle_not : Legal idle_command (2 ^ 64 - 1) idle_wrong → ⊥
  pub broken_legal : Legal broken_command (2 ^ 64 - 1) broken
  pub broken_outcome : outcome broken_command broken ≡ Some (outcomes.Faulted (at 0 Right Both false) ToWrite)
  pub broken_until : until_of broken_command (drop 7 broken) ≡ Some 509
  pub broken_until_then : until_of broken_command (drop 5 broken) ≡ Some 15
  -- without `-s` the fault ends the session at once
  pub broken_not : Legal broken_other (2 ^ 64 - 1) broken → ⊥
  pub packets_legal : Legal packets_command (2 ^ 64 - 1) packets
  pub packets_outcome : outcome packets_command packets ≡ Some (outcomes.Faulted (at 0 Right Reading false) ToRead)
  pub packets_until : until_of packets_command (drop 13 packets) ≡ None
  pub packets_until_then : until_of packets_command (drop 9 packets) ≡ None
  pub packets_not : Legal packets_command (2 ^ 64 - 1) packets_wrong → ⊥
  pub pair_quiet_legal : Legal pair_command (2 ^ 64 - 1) pair_quiet
  pub pair_busy_legal : Legal pair_command (2 ^ 64 - 1) pair_busy
  pub pair_same : story pair_command 1 pair_quiet ≡ story pair_command 1 pair_busy
  pub pair_told :
      story pair_command 1 pair_busy
      ≡ Own (Wrote (at 1 Right Writing false) (97 ∷ []))
      ∷ Own (Read (at 1 Left Reading false) (97 ∷ []))
      ∷ Turned 5 (named (at 1 Left Reading false) ToRead ∷ []) false
      ∷ Own (ReadNotYet (at 1 Left Reading false))
      ∷ Own (Opened (at 1 Right Writing false))
      ∷ Own (Accepted (at 1 Left Reading false) (peers.V4 (10 ∷ 1 ∷ 2 ∷ 4 ∷ []) 81))
      ∷ []
  -- of a stop that a turn said, and the closings for it elsewhere, the session hears once
  pub pair_stopped :
      story pair_command 1 (Closed (at 0 Left Both true) whys.Stopped ∷ Closed (at 0 Left Reading false) whys.Stopped ∷ Turn None 9 (listed []) true ∷ pair_begun)
      ≡ Turned 9 [] true ∷ story pair_command 1 pair_begun
  -- where no turn said it, the first such closing tells of it
  pub pair_out_of_turns :
      story pair_command 1 (Closed (at 0 Left Both true) whys.Stopped ∷ Closed (at 0 Left Reading false) whys.Stopped ∷ pair_begun)
      ≡ Ending whys.Stopped ∷ story pair_command 1 pair_begun
