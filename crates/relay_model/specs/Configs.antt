-- What a command fixes before anything happens: its places and doors, which directions are formed, and how an end
-- is passed on.
use Rattle.std.specs.Prelude.{◌≡◌, ℕ, Bool, true, false, not, ◌&&◌, ◌||◌, nat_le, List, [], ◌∷◌, ◌++◌, map, filter, count_by, Option, Some, None, is_some, unwrap_or, if◌then◌else◌}
use Rattle.std.specs.List.{list_any}
use Rattle.relay_model.specs.declared.places.Side.{Side}
use Rattle.relay_model.specs.declared.places.Side.TheVariants.{Left, Right}
use Rattle.relay_model.specs.declared.places.Part.{Part}
use Rattle.relay_model.specs.declared.places.Part.TheVariants.{Both, Reading, Writing}
use Rattle.relay_model.specs.declared.places.Half.{Half}
use Rattle.relay_model.specs.declared.places.Half.TheVariants.{ToRead, ToWrite}
use Rattle.relay_model.specs.declared.places.Way.{Way}
use Rattle.relay_model.specs.declared.places.Way.TheVariants.{LeftToRight, RightToLeft}
use Rattle.relay_model.specs.declared.places.Place.{Place}
use Rattle.relay_model.specs.declared.acts.Shut.{Shut}
use Rattle.relay_model.specs.declared.acts.Shut.TheVariants as shuts
use Rattle.relay_model.specs.declared.commands.Config.{Config}
use Rattle.relay_model.specs.declared.commands.Ways.{Ways}
use Rattle.relay_model.specs.declared.commands.Ways.TheVariants as ways
use Rattle.relay_model.specs.declared.commands.Address.{Address}
use Rattle.relay_model.specs.declared.commands.Address.TheVariants as addresses
use Rattle.relay_model.specs.declared.commands.Single.{Single}
use Rattle.relay_model.specs.declared.commands.Options.{Options}
use Rattle.relay_model.specs.declared.commands.FileFlags.{FileFlags}
use Rattle.relay_model.specs.declared.commands.Target.{Target}
use Rattle.relay_model.specs.declared.commands.Target.TheVariants as targets
use Rattle.relay_model.specs.Places.{same_side, same_place, door_of}
use Rattle.relay_model.specs.declared.media.Medium.{Medium}
use Rattle.relay_model.specs.declared.media.Medium.TheVariants.{Standard, Storage, Program, Connection, Datagrams}

-- ---- kinds

-- what a kind of address stands on
abbrev pub medium : Target → Medium
medium targets.Stdio = Standard
medium targets.Stdin = Standard
medium targets.Stdout = Standard
medium targets.Stderr = Standard
medium (targets.Create name) = Storage
medium (targets.FileAt name) = Storage
medium (targets.GenericOpen name) = Storage
medium targets.Echo = Storage
medium (targets.NamedPipe name) = Storage
medium (targets.Tcp family host port) = Connection
medium (targets.TcpListen family port) = Connection
medium (targets.Udp family host port) = Datagrams
medium (targets.UdpListen family port) = Datagrams
medium (targets.UdpRecvfrom family port) = Datagrams
medium (targets.UdpRecv family port) = Datagrams
medium (targets.UdpSendto family host port) = Datagrams
medium (targets.UnixConnect name) = Connection
medium (targets.UnixListen name) = Connection
medium (targets.Exec words) = Program
medium (targets.System command) = Program
medium (targets.Socks named server host port) = Connection
medium (targets.Proxy server host port) = Connection

-- a datagram socket
abbrev pub is_datagrams : Medium → Bool
is_datagrams Datagrams = true
is_datagrams other = false

-- a child
abbrev pub is_program : Medium → Bool
is_program Program = true
is_program other = false

-- whether the kind waits for a peer at a door
abbrev pub listens : Target → Bool
listens (targets.TcpListen family port) = true
listens (targets.UdpListen family port) = true
listens (targets.UdpRecvfrom family port) = true
listens (targets.UnixListen name) = true
listens other = false

-- ---- directions

-- where a direction begins and ends
abbrev pub source : Way → Side
source LeftToRight = Left
source RightToLeft = Right

-- the side that a direction writes to
abbrev pub sink : Way → Side
sink LeftToRight = Right
sink RightToLeft = Left

-- the direction that begins at a side, and the one that ends there
abbrev pub way_from : Side → Way
way_from Left = LeftToRight
way_from Right = RightToLeft

-- the direction that writes to a side
abbrev pub way_to : Side → Way
way_to Left = RightToLeft
way_to Right = LeftToRight

-- ---- places

-- the address of a side
abbrev pub address : Config → Side → Address
address c Left = c.left
address c Right = c.right

-- a file is only read with `rdonly`, and else only written with `wronly`
abbrev pub narrowed : FileFlags → Part
narrowed flags =
    if flags.rdonly then Reading
    else if flags.wronly then Writing
    else Both

-- the part of a single address in a two-way call
abbrev pub offered : Target → FileFlags → Part
offered targets.Stdin flags = Reading
offered targets.Stdout flags = Writing
offered targets.Stderr flags = Writing
offered (targets.FileAt name) flags = narrowed flags
offered (targets.GenericOpen name) flags = narrowed flags
offered other flags = Both

-- the parts of a side, in opening order: in a one-way call only the half that is needed
abbrev pub parts_of : Ways → Address → Side → List Part
parts_of ways.Two (addresses.One single) side = offered single.target single.options.file ∷ []
parts_of ways.Two (addresses.Two reading writing) side = Reading ∷ Writing ∷ []
parts_of ways.OnlyRight address Left = Reading ∷ []
parts_of ways.OnlyRight address Right = Writing ∷ []
parts_of ways.OnlyLeft address Left = Writing ∷ []
parts_of ways.OnlyLeft address Right = Reading ∷ []

-- the parts of a side that are opened
abbrev pub parts : Config → Side → List Part
parts c side = parts_of c.ways (address c side) side

-- the place of this session, side and part; no door
abbrev pub place_at : ℕ → Side → Part → Place
place_at s side part = record { session = s; side = side; part = part; door = false }

-- the places of a session, in opening order
abbrev pub places : Config → ℕ → List Place
places c s = map (place_at s Left) (parts c Left) ++ map (place_at s Right) (parts c Right)

-- the single address that a place stands for; a door has that of its place
abbrev pub single_for : Address → Part → Single
single_for (addresses.One single) part = single
single_for (addresses.Two reading writing) Both = reading
single_for (addresses.Two reading writing) Reading = reading
single_for (addresses.Two reading writing) Writing = writing

-- the single address that a place or door stands for
abbrev pub single : Config → Place → Single
single c p = single_for (address c p.side) p.part

-- the options of that address
abbrev pub options_of : Config → Place → Options
options_of c p = (single c p).options

-- what a place stands on
abbrev pub medium_of : Config → Place → Medium
medium_of c p = medium (single c p).target

-- the kind at a place waits for a peer
abbrev pub listens_at : Config → Place → Bool
listens_at c p = listens (single c p).target

-- ---- doors

-- a single address with `fork`
abbrev pub forks : Address → Bool
forks (addresses.One single) = single.options.sessions.fork
forks (addresses.Two reading writing) = false

-- whether each permitted peer of the left address is a session of its own
abbrev pub has_fork : Config → Bool
has_fork c = forks c.left

-- the one door of a command with `fork`
abbrev pub program_door : Place
program_door = record { session = 0; side = Left; part = Both; door = true }

-- a place of the left side
abbrev pub is_left : Place → Bool
is_left p = same_side p.side Left

-- this is the program door, in a command with `fork`
abbrev pub is_program_door : Config → Place → Bool
is_program_door c q = same_place q program_door && has_fork c

-- whether a place has a door of its own: with `fork` the left one hasn't
abbrev pub has_own_door : Config → Place → Bool
has_own_door c p = listens_at c p && not (is_left p && has_fork c)

-- the door at which the peer of a place is accepted
abbrev pub accepting_door : Config → Place → Place
accepting_door c p = if is_left p && has_fork c then program_door else door_of p

-- the doors that belong to a session
abbrev pub own_doors : Config → ℕ → List Place
own_doors c s = map door_of (filter (has_own_door c) (places c s))

-- this is one of the places of the session
abbrev pub is_place_of : Config → ℕ → Place → Bool
is_place_of c s q = list_any (same_place q) (places c s)

-- the places and own doors of a session
abbrev pub things : Config → ℕ → List Place
things c s = places c s ++ own_doors c s

-- this is one of the places and own doors of the session
abbrev pub is_of : Config → ℕ → Place → Bool
is_of c s q = list_any (same_place q) (things c s)

-- ---- formed directions

-- a part that serves for both has each half
abbrev pub has_half : Half → Part → Bool
has_half half Both = true
has_half ToRead Reading = true
has_half ToRead Writing = false
has_half ToWrite Reading = false
has_half ToWrite Writing = true

-- the part among these that has the half
abbrev pub part_with : Half → List Part → Option Part
part_with half [] = None
part_with half (part ∷ parts) = if has_half half part then Some part else part_with half parts

-- whether both ends of the direction exist
abbrev pub formed : Config → Way → Bool
formed c w = is_some (part_with ToRead (parts c (source w))) && is_some (part_with ToWrite (parts c (sink w)))

-- where a formed direction is read from and written to
abbrev pub input : Config → ℕ → Way → Place
input c s w = place_at s (source w) (unwrap_or (part_with ToRead (parts c (source w))) Both)

-- the place that a direction writes to
abbrev pub output : Config → ℕ → Way → Place
output c s w = place_at s (sink w) (unwrap_or (part_with ToWrite (parts c (sink w))) Both)

-- whether both ends of a formed direction carry datagrams, whose borders are then kept
abbrev pub keeps_borders : Config → Way → Bool
keeps_borders c w = formed c w && is_datagrams (medium_of c (input c 0 w)) && is_datagrams (medium_of c (output c 0 w))

-- ---- passing the end on

-- whether the writing half of a place stands on standard output
abbrev pub writes_output : Target → Part → Bool
writes_output targets.Stdio part = has_half ToWrite part
writes_output targets.Stdout part = true
writes_output other part = false

-- the place writes standard output
abbrev pub stands_on_output : Config → Place → Bool
stands_on_output c p = writes_output (single c p).target p.part

-- standard output is shared with `fork` and where two places stand on it
abbrev pub output_is_shared : Config → Bool
output_is_shared c = has_fork c || nat_le 2 (count_by (stands_on_output c) (places c 0))

-- standard error
abbrev pub is_error_stream : Target → Bool
is_error_stream targets.Stderr = true
is_error_stream other = false

-- standard error carries the notes too, so it is always shared
abbrev pub writes_shared_stream : Config → Place → Bool
writes_shared_stream c p = is_error_stream (single c p).target || stands_on_output c p && output_is_shared c

-- an empty datagram where that is asked for, else nothing
abbrev pub datagram_shut : Option Shut → Shut
datagram_shut (Some shuts.Null) = shuts.Null
datagram_shut other = shuts.Nothing

-- a connected socket is shut down, unless it is to be closed or left alone
abbrev pub connection_shut : Option Shut → Shut
connection_shut None = shuts.Down
connection_shut (Some shuts.Null) = shuts.Nothing
connection_shut (Some shuts.Nothing) = shuts.Nothing
connection_shut (Some shuts.Down) = shuts.Down
connection_shut (Some shuts.Close) = shuts.Close

-- a stream, a file, a pipe and a child are closed, unless they are to be left alone
abbrev pub plain_shut : Option Shut → Shut
plain_shut (Some shuts.Nothing) = shuts.Nothing
plain_shut (Some shuts.Null) = shuts.Nothing
plain_shut other = shuts.Close

-- how an end is passed on, by what the place stands on and what its options ask
abbrev pub shut_on : Medium → Option Shut → Shut
shut_on Datagrams asked = datagram_shut asked
shut_on Connection asked = connection_shut asked
shut_on Standard asked = plain_shut asked
shut_on Storage asked = plain_shut asked
shut_on Program asked = plain_shut asked

-- how the end of a direction is passed on at its output
abbrev pub how : Config → Place → Shut
how c p = if writes_shared_stream c p then shuts.Nothing else shut_on (medium_of c p) (options_of c p).shut

-- ---- commands that can be run

-- `fork` stands on no address but a left single one that listens
abbrev pub fork_is_placed : Address → Address → Bool
fork_is_placed left right = left_is_placed left && not (names_fork right)
  where
    names_fork : Address → Bool
    names_fork (addresses.One single) = single.options.sessions.fork
    names_fork (addresses.Two reading writing) = reading.options.sessions.fork || writing.options.sessions.fork

    left_is_placed : Address → Bool
    left_is_placed (addresses.One single) = not single.options.sessions.fork || listens single.target
    left_is_placed (addresses.Two reading writing) = not (reading.options.sessions.fork || writing.options.sessions.fork)

-- a command in order: a block of 1 to 1,048,576 bytes, some direction, and `fork` where it may stand
pub record Fit (c : Config) : Type 0 where
  pub some_block : nat_le 1 c.block ≡ true
  pub small_block : nat_le c.block 1048576 ≡ true
  pub some_direction : (formed c LeftToRight || formed c RightToLeft) ≡ true
  pub fork : fork_is_placed c.left c.right ≡ true
