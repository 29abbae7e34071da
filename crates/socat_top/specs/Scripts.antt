-- What the world of a generated run is told to answer.
use Rattle.std.specs.Prelude.{ℕ, zero, suc, ◌+◌, ◌*◌, ◌&&◌, nat_lt, List, [], ◌∷◌, ◌++◌, if◌then◌else◌}
use Rattle.relay_model.specs.declared.acts.Peer.TheVariants.{V4}
use Rattle.relay_model.specs.declared.places.Side.TheVariants.{Left, Right}
use Rattle.relay_model.specs.declared.places.Part.TheVariants.{Both}
use Rattle.relay_model.specs.{Place, same_place, place_at, program_door}
use Rattle.scripted_world.specs.{DuePeer, PlacedItem, DueRead, DueWrite, Script, empty_script}
use Rattle.scripted_world.specs.declared.items.PeerItem.TheVariants.{Comes}
use Rattle.scripted_world.specs.declared.reading.Reading.TheVariants as readings
use Rattle.scripted_world.specs.declared.writing.Writing.TheVariants as writings
use Rattle.socat_top.specs.Stream.{bytes_after, first_state, state_after}

-- ---- places

-- where a session is read from
abbrev pub left_place : ℕ → Place
left_place s = place_at s Left Both

-- where it writes to
abbrev pub right_place : ℕ → Place
right_place s = place_at s Right Both

-- ---- reads

-- the state in which the bytes of a session begin: each has 65,536 of them
abbrev pub session_state : ℕ → ℕ → ℕ
session_state n s = state_after (s * 65536) (first_state n)

-- the bytes that a session is to carry
abbrev pub session_bytes : ℕ → ℕ → List ℕ
session_bytes n s = bytes_after 65536 (session_state n s)

-- a piece of 512 bytes behind a state, at its moment
abbrev pub piece_line : ℕ → ℕ → ℕ → PlacedItem DueRead
piece_line s at x = record { place = left_place s; item = record { at = at; reading = readings.Bytes (bytes_after 512 x) } }

-- so many pieces of a session, one at each moment
unfoldable pub pieces : ℕ → ℕ → ℕ → List (PlacedItem DueRead)
pieces s zero x = []
pieces s (suc k) x = pieces s k x ++ piece_line s k (state_after (k * 512) x) ∷ []

-- the end of the input at a place, at moment 127
abbrev pub end_line : Place → PlacedItem DueRead
end_line p = record { place = p; item = record { at = 127; reading = readings.End } }

-- what a session reads: 128 pieces on its left, and the end on both sides
abbrev pub session_reads : ℕ → ℕ → List (PlacedItem DueRead)
session_reads s x = pieces s 128 x ++ end_line (left_place s) ∷ end_line (right_place s) ∷ []

-- what so many sessions read
unfoldable pub reads_of : ℕ → ℕ → List (PlacedItem DueRead)
reads_of n zero = []
reads_of n (suc s) = reads_of n s ++ session_reads s (session_state n s)

-- ---- writes

-- a write to the right place of a session takes up to 300 bytes
abbrev pub taking_line : ℕ → PlacedItem DueWrite
taking_line s = record { place = right_place s; item = record { at = 0; writing = writings.Upto 300 } }

-- a write to it takes nothing yet
abbrev pub waiting_line : ℕ → PlacedItem DueWrite
waiting_line s = record { place = right_place s; item = record { at = 0; writing = writings.NotYet } }

-- so many of each, in turn
unfoldable pub session_writes : ℕ → ℕ → List (PlacedItem DueWrite)
session_writes s zero = []
session_writes s (suc k) = session_writes s k ++ taking_line s ∷ waiting_line s ∷ []

-- what becomes of the writes of so many sessions: 300 of each
unfoldable pub writes_of : ℕ → List (PlacedItem DueWrite)
writes_of zero = []
writes_of (suc s) = writes_of s ++ session_writes s 300

-- ---- peers

-- a peer on this machine, with a port of its own
abbrev pub peer_line : ℕ → PlacedItem DuePeer
peer_line s = record { place = program_door; item = record { at = 0; item = Comes (V4 (127 ∷ 0 ∷ 0 ∷ 1 ∷ []) (1001 + s)) } }

-- the first peers that come
unfoldable pub peers_of : ℕ → List (PlacedItem DuePeer)
peers_of zero = []
peers_of (suc s) = peers_of s ++ peer_line s ∷ []

-- ---- the whole

-- the script of so many sessions
abbrev pub script_of : ℕ → ℕ → Script
script_of n s = record empty_script { peers = peers_of s; reads = reads_of n s; writes = writes_of s }

-- the bytes that are to be read at a place: of fifty sessions, at their left places
abbrev pub scripted : ℕ → Place → List ℕ
scripted n p = if same_place (left_place p.session) p && nat_lt p.session 50 then session_bytes n p.session else []
