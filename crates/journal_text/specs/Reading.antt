-- What a field, and a line without its newline, is read as: the value, where one is spelt so. That nothing else is
-- read, and all that is spelt, follows from `proofs/`.
use Rattle.std.specs.Prelude.{◌≡◌, ℕ, ◌+◌, ◌-◌, ◌*◌, ◌^◌, Bool, true, false, not, ◌&&◌, ◌||◌, ◌==◌, nat_lt, nat_le, ℤ, pos, neg_ℤ, List, [], ◌∷◌, length, take, drop, slice_index, codes, position, find, Option, Some, None, Result, Ok, Err, option_map, option_and_then, if◌then◌else◌}
use Rattle.std.specs.List.{slice_split}
use Rattle.std.specs.Str.{byte, bytes_eq, all_ascii_digits}
use Rattle.std.specs.Str.Parse.{digits_value}
use Rattle.relay_model.specs.{Side, Part, Half, Place, ReadyAt, Peer, Shut, Why, ChildEnd, Act}
use Rattle.relay_model.specs.declared.places.Side.TheVariants.{Left, Right}
use Rattle.relay_model.specs.declared.places.Part.TheVariants.{Both, Reading, Writing}
use Rattle.relay_model.specs.declared.places.Half.TheVariants.{ToRead, ToWrite}
use Rattle.relay_model.specs.declared.acts.Peer.TheVariants.{V4, V6, Local}
use Rattle.relay_model.specs.declared.acts.Shut.TheVariants.{Nothing, Down, Close, Null}
use Rattle.relay_model.specs.declared.acts.Why.TheVariants as reason
use Rattle.relay_model.specs.declared.acts.ChildEnd.TheVariants.{Running, Ended, Killed}
use Rattle.relay_model.specs.declared.acts.Act.TheVariants as act
use Rattle.journal_text.specs.declared.faults.LineFault.{LineFault}
use Rattle.journal_text.specs.declared.faults.LineFault.TheVariants as fault
use Rattle.journal_text.specs.declared.kinds.ActKind.{ActKind}
use Rattle.journal_text.specs.declared.kinds.ActKind.TheVariants as kind
use Rattle.journal_text.specs.Fields.{shut_text, why_text}

infixl 10 ◌>>=◌
-- the next step where this one read something
abbrev pub ◌>>=◌ : {A B : Type 0} → Option A → (A → Option B) → Option B
o >>= f = option_and_then f o

-- the value, where the test passes
abbrev pub only_if : {A : Type 0} → Bool → A → Option A
only_if test value = if test then Some value else None

-- a call that may want memory answered with this
abbrev pub Gives : {A : Type 0} → Result A LineFault → Option A → Type 0
Gives (Ok value) found = found ≡ Some value
Gives (Err fault.NoAct) found = found ≡ None
Gives (Err fault.Memory) found = Unit {0}

-- the same of what a view shows of the answer
abbrev pub GivesSeen : {A B : Type 0} → (A → B) → Result A LineFault → Option B → Type 0
GivesSeen view (Ok value) found = found ≡ Some (view value)
GivesSeen view (Err fault.NoAct) found = found ≡ None
GivesSeen view (Err fault.Memory) found = Unit {0}

-- what stands before the first such byte and what stands after it
unfoldable pub around_first : ℕ → List ℕ → Option (List ℕ × List ℕ)
around_first b text = option_map (λ at. (take at text, drop (at + 1) text)) (position (λ c. c == b) text)

-- digits of which the first isn't 0, or 0 alone
abbrev pub is_plain : List ℕ → Bool
is_plain text = all_ascii_digits text && nat_le 1 (length text) && (not (slice_index text 0 == byte "0") || length text == 1)

-- a number of at most this
unfoldable pub number_in : ℕ → List ℕ → Option ℕ
number_in greatest text = only_if (is_plain text && nat_le (digits_value 10 text) greatest) (digits_value 10 text)

-- the number that a field spells
abbrev pub moment_in : List ℕ → Option ℕ
moment_in text = number_in (2 ^ 64 - 1) text

-- the number that a field spells, or that it spells none
unfoldable pub optional_in : List ℕ → Option (Option ℕ)
optional_in text = if bytes_eq text (codes "-") then Some None else option_map Some (moment_in text)

-- a number with a minus in front
abbrev pub negative_in : List ℕ → Option ℤ
negative_in digits = do
  n ← number_in (2 ^ 31) digits
  only_if (nat_le 1 n) (neg_ℤ (pos n))

-- the status of a child that a field spells
unfoldable pub status_in : List ℕ → Option ℤ
status_in text =
    if slice_index text 0 == byte "-" then negative_in (drop 1 text) else option_map pos (number_in (2 ^ 31 - 1) text)

-- the truth that a field spells
abbrev pub flag_in : List ℕ → Option Bool
flag_in text =
    if bytes_eq text (codes "1") then Some true else (if bytes_eq text (codes "0") then Some false else None)

-- the side that a letter stands for
abbrev pub side_in : ℕ → Option Side
side_in letter = if letter == byte "L" then Some Left else (if letter == byte "R" then Some Right else None)

-- the part that a letter stands for
abbrev pub part_in : ℕ → Option Part
part_in letter =
    if letter == byte "B" then Some Both
    else (if letter == byte "I" then Some Reading else (if letter == byte "O" then Some Writing else None))

-- whether a letter stands for a door
abbrev pub door_in : ℕ → Option Bool
door_in letter = if letter == byte "d" then Some true else (if letter == byte "-" then Some false else None)

-- the half that a letter stands for
abbrev pub half_in : ℕ → Option Half
half_in letter = if letter == byte "r" then Some ToRead else (if letter == byte "w" then Some ToWrite else None)

-- digits and three letters
abbrev pub place_between : List ℕ → ℕ → ℕ → ℕ → Option Place
place_between digits first second third = do
  session ← number_in (2 ^ 32 - 1) digits
  side ← side_in first
  part ← part_in second
  door ← door_in third
  Some (record { session = session; side = side; part = part; door = door })

-- the place that a field spells
unfoldable pub place_in : List ℕ → Option Place
place_in text =
    if nat_lt (length text) 3 then None
    else place_between (take (length text - 3) text) (slice_index text (length text - 3)) (slice_index text (length text - 2)) (slice_index text (length text - 1))

-- an entry by its place and its letter
abbrev pub entry_between : List ℕ → ℕ → Option ReadyAt
entry_between text letter = do
  place ← place_in text
  half ← half_in letter
  Some (record { place = place; half = half })

-- the entry that a text spells
unfoldable pub entry_in : List ℕ → Option ReadyAt
entry_in text =
    if nat_lt (length text) 1 then None
    else entry_between (take (length text - 1) text) (slice_index text (length text - 1))

-- the entries that texts spell
unfoldable pub entries_in : List (List ℕ) → Option (List ReadyAt)
entries_in [] = Some []
entries_in (piece ∷ pieces) = do
  entry ← entry_in piece
  entries ← entries_in pieces
  Some (entry ∷ entries)

-- entries with commas between, or a dash for none
unfoldable pub ready_in : List ℕ → Option (List ReadyAt)
ready_in text =
    if bytes_eq text (codes "-") then Some []
    else entries_in (slice_split (λ b. b == byte ",") text) >>= λ entries. only_if (nat_le (length entries) 256) entries

-- the value of a hexadecimal digit
abbrev pub hex_in : ℕ → Option ℕ
hex_in digit =
    if nat_le (byte "0") digit && nat_le digit (byte "9") then Some (digit - byte "0")
    else (if nat_le (byte "a") digit && nat_le digit (byte "f") then Some (digit - byte "a" + 10) else None)

-- the byte that two digits spell
abbrev pub byte_in : ℕ → ℕ → Option ℕ
byte_in first second = do
  high ← hex_in first
  low ← hex_in second
  Some (16 * high + low)

-- two digits a byte
unfoldable pub digits_in : List ℕ → Option (List ℕ)
digits_in [] = Some []
digits_in (digit ∷ []) = None
digits_in (first ∷ second ∷ digits) = do
  value ← byte_in first second
  bytes ← digits_in digits
  Some (value ∷ bytes)

-- the bytes that a field spells
unfoldable pub bytes_in : List ℕ → Option (List ℕ)
bytes_in text = if slice_index text 0 == byte "x" then digits_in (drop 1 text) else None

-- so many bytes
abbrev pub octets_in : ℕ → List ℕ → Option (List ℕ)
octets_in size digits = do
  bytes ← digits_in digits
  only_if (length bytes == size) bytes

-- the peer with an address of this length that a text spells
abbrev pub addressed_in : ℕ → (List ℕ → ℕ → Peer) → List ℕ → Option Peer
addressed_in size peer text = do
  parts ← around_first (byte ":") text
  addr ← octets_in size parts.0
  port ← number_in (2 ^ 16 - 1) parts.1
  Some (peer addr port)

-- the peer that a field spells
unfoldable pub peer_in : List ℕ → Option Peer
peer_in text =
    if bytes_eq text (codes "l") then Some Local
    else (if slice_index text 1 == byte ":"
    then (if slice_index text 0 == byte "4" then addressed_in 4 V4 (drop 2 text)
    else (if slice_index text 0 == byte "6" then addressed_in 16 V6 (drop 2 text) else None))
    else None)

-- each way in which an end is passed on
abbrev pub all_shuts : List Shut
all_shuts = Nothing ∷ Down ∷ Close ∷ Null ∷ []

-- the way that a word stands for
unfoldable pub shut_in : List ℕ → Option Shut
shut_in text = find (λ how. bytes_eq (shut_text how) text) all_shuts

-- each reason of a closing
abbrev pub all_whys : List Why
all_whys =
    reason.Finished
    ∷ reason.ClosingTime
    ∷ reason.Idle
    ∷ reason.Faulted
    ∷ reason.OpenFailed
    ∷ reason.ListenFailed
    ∷ reason.AcceptFailed
    ∷ reason.Refused
    ∷ reason.Served
    ∷ reason.Stopped
    ∷ reason.Memory
    ∷ []

-- the reason that a word stands for
unfoldable pub why_in : List ℕ → Option Why
why_in text = find (λ why. bytes_eq (why_text why) text) all_whys

-- what became of a child, by the words for it
unfoldable pub child_in : List ℕ → Option ChildEnd
child_in text =
    if bytes_eq text (codes "running") then Some Running
    else (if bytes_eq text (codes "killed") then Some Killed
    else around_first (byte " ") text >>= λ parts.
    if bytes_eq parts.0 (codes "ended") then option_map Ended (status_in parts.1) else None)

-- the word for a kind of act
abbrev pub kind_text : ActKind → List ℕ
kind_text kind.Turn = codes "turn"
kind_text kind.Opened = codes "opened"
kind_text kind.OpenLater = codes "later"
kind_text kind.OpenFailed = codes "openfail"
kind_text kind.Listening = codes "listening"
kind_text kind.ListenFailed = codes "listenfail"
kind_text kind.Accepted = codes "accepted"
kind_text kind.NoPeer = codes "nopeer"
kind_text kind.AcceptFailed = codes "acceptfail"
kind_text kind.Read = codes "read"
kind_text kind.ReadEmpty = codes "empty"
kind_text kind.ReadEnd = codes "end"
kind_text kind.ReadNotYet = codes "readnotyet"
kind_text kind.ReadFault = codes "readfault"
kind_text kind.Wrote = codes "wrote"
kind_text kind.WriteNotYet = codes "writenotyet"
kind_text kind.WriteFault = codes "writefault"
kind_text kind.Shut = codes "shut"
kind_text kind.ShutFault = codes "shutfault"
kind_text kind.Closed = codes "closed"
kind_text kind.Reaped = codes "reaped"
kind_text kind.Note = codes "note"
kind_text kind.NoteFault = codes "notefault"

-- each kind of act
abbrev pub all_kinds : List ActKind
all_kinds =
    kind.Turn
    ∷ kind.Opened
    ∷ kind.OpenLater
    ∷ kind.OpenFailed
    ∷ kind.Listening
    ∷ kind.ListenFailed
    ∷ kind.Accepted
    ∷ kind.NoPeer
    ∷ kind.AcceptFailed
    ∷ kind.Read
    ∷ kind.ReadEmpty
    ∷ kind.ReadEnd
    ∷ kind.ReadNotYet
    ∷ kind.ReadFault
    ∷ kind.Wrote
    ∷ kind.WriteNotYet
    ∷ kind.WriteFault
    ∷ kind.Shut
    ∷ kind.ShutFault
    ∷ kind.Closed
    ∷ kind.Reaped
    ∷ kind.Note
    ∷ kind.NoteFault
    ∷ []

-- the kind that a word stands for
unfoldable pub kind_in : List ℕ → Option ActKind
kind_in word = find (λ k. bytes_eq (kind_text k) word) all_kinds

-- a place, and what stands after the space behind it
unfoldable pub front_in : List ℕ → Option (Place × List ℕ)
front_in text = do
  parts ← around_first (byte " ") text
  place ← place_in parts.0
  Some (place, parts.1)

-- a place and a further field
abbrev pub placed_in : {A : Type 0} → (Place → A → Act) → (List ℕ → Option A) → List ℕ → Option Act
placed_in make field_in text = do
  front ← front_in text
  value ← field_in front.1
  Some (make front.0 value)

-- the turn that the fields of a line spell
unfoldable pub turn_in : List ℕ → Option Act
turn_in text = do
  first ← around_first (byte " ") text
  until ← optional_in first.0
  second ← around_first (byte " ") first.1
  at ← moment_in second.0
  third ← around_first (byte " ") second.1
  entries ← ready_in third.0
  stop ← flag_in third.1
  Some (act.Turn until at (record { entries = entries; room = 0 }) stop)

-- the act of this kind that has these fields
unfoldable pub fields_in : ActKind → List ℕ → Option Act
fields_in kind.Turn text = turn_in text
fields_in kind.Opened text = option_map act.Opened (place_in text)
fields_in kind.OpenLater text = option_map act.OpenLater (place_in text)
fields_in kind.OpenFailed text = option_map act.OpenFailed (place_in text)
fields_in kind.Listening text = option_map act.Listening (place_in text)
fields_in kind.ListenFailed text = option_map act.ListenFailed (place_in text)
fields_in kind.Accepted text = placed_in act.Accepted peer_in text
fields_in kind.NoPeer text = option_map act.NoPeer (place_in text)
fields_in kind.AcceptFailed text = option_map act.AcceptFailed (place_in text)
fields_in kind.Read text = placed_in act.Read bytes_in text
fields_in kind.ReadEmpty text = option_map act.ReadEmpty (place_in text)
fields_in kind.ReadEnd text = option_map act.ReadEnd (place_in text)
fields_in kind.ReadNotYet text = option_map act.ReadNotYet (place_in text)
fields_in kind.ReadFault text = option_map act.ReadFault (place_in text)
fields_in kind.Wrote text = placed_in act.Wrote bytes_in text
fields_in kind.WriteNotYet text = option_map act.WriteNotYet (place_in text)
fields_in kind.WriteFault text = option_map act.WriteFault (place_in text)
fields_in kind.Shut text = placed_in act.Shut shut_in text
fields_in kind.ShutFault text = placed_in act.ShutFault shut_in text
fields_in kind.Closed text = placed_in act.Closed why_in text
fields_in kind.Reaped text = placed_in act.Reaped child_in text
fields_in kind.Note text = option_map act.Note (bytes_in text)
fields_in kind.NoteFault text = option_map act.NoteFault (bytes_in text)

-- the act of a line without its newline
unfoldable pub act_in : List ℕ → Option Act
act_in text = do
  parts ← around_first (byte " ") text
  k ← kind_in parts.0
  fields_in k parts.1

-- the act of the first line, and what stands after that line
unfoldable pub line_in : List ℕ → Option (Act × List ℕ)
line_in text = do
  parts ← around_first (byte "\n") text
  a ← act_in parts.0
  Some (a, parts.1)
