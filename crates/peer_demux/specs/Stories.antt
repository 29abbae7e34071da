-- The calls of a table of senders one after another, and what they say of one row.
use Rattle.std.specs.Prelude.{◌≡◌, ℕ, ◌==◌, ◌<◌, Bool, true, false, not, ◌||◌, ◌&&◌, List, [], ◌∷◌, ◌++◌, length, take, Option, None, Some, if◌then◌else◌}
use Rattle.std.specs.List.{concat, list_any}
use Rattle.relay_model.specs.{Peer}
use Rattle.peer_demux.specs.declared.answers.Mode.{Mode}
use Rattle.peer_demux.specs.declared.answers.Mode.TheVariants as modes
use Rattle.peer_demux.specs.declared.answers.Put.{Put}
use Rattle.peer_demux.specs.declared.answers.Put.TheVariants as puts
use Rattle.peer_demux.specs.declared.answers.Taken.{Taken}
use Rattle.peer_demux.specs.declared.answers.Taken.TheVariants as takes
use Rattle.peer_demux.specs.Rows.{RowState, first_packet}
use Rattle.peer_demux.specs.Tables.{TableState, IsDropped, IsNext, IsNextCall, IsPut, IsTaken, IsTrimmed, RowStands, fresh_table, row_at}

-- a call with its answer; a taking has the buffer that it left
pub data DemuxStep : Type 0 where
  Came : Peer → List ℕ → Put → DemuxStep
  HandedOut : Option (ℕ × Peer) → DemuxStep
  Gave : ℕ → List ℕ → Taken → DemuxStep
  LetGo : ℕ → DemuxStep
  TurnedAway : DemuxStep
  Told : Option ℕ → DemuxStep

-- the call makes this of the table
abbrev pub IsStep : TableState → TableState → DemuxStep → Type 0
IsStep before now (Came from bytes put) = IsPut before now from bytes put
IsStep before now (HandedOut found) = IsNext before now found
IsStep before now (Gave number into taken) = IsTaken before now number into taken
IsStep before now (LetGo number) = IsDropped before now number
IsStep before now TurnedAway = IsTrimmed before now
IsStep before now (Told found) = IsNextCall before now found

-- these calls, the newest first, make this of a fresh table
abbrev pub Leads : Mode → List DemuxStep → TableState → Type 0
Leads mode [] now = now ≡ fresh_table mode
Leads mode (step ∷ steps) now = (before : TableState) × Leads mode steps before × IsStep before now step

-- the packet that a call put into the row of this number
abbrev pub came_by : ℕ → DemuxStep → List (List ℕ)
came_by number (Came from bytes (puts.New row)) = if row == number then bytes ∷ [] else []
came_by number (Came from bytes (puts.Queued row)) = if row == number then bytes ∷ [] else []
came_by number (Came from bytes (puts.Dropped why)) = []
came_by number (HandedOut found) = []
came_by number (Gave row into taken) = []
came_by number (LetGo row) = []
came_by number TurnedAway = []
came_by number (Told found) = []

-- the bytes that a call took of the row of this number
abbrev pub taken_by : ℕ → DemuxStep → List ℕ
taken_by number (Came from bytes put) = []
taken_by number (HandedOut found) = []
taken_by number (Gave row into (takes.Bytes count)) = if row == number then take count into else []
taken_by number (Gave row into takes.Empty) = []
taken_by number (Gave row into takes.NotYet) = []
taken_by number (Gave row into takes.End) = []
taken_by number (LetGo row) = []
taken_by number TurnedAway = []
taken_by number (Told found) = []

-- the packets that arrived at the row of this number, the oldest first
abbrev pub arrived : ℕ → List DemuxStep → List (List ℕ)
arrived number [] = []
arrived number (step ∷ steps) = arrived number steps ++ came_by number step

-- the bytes that were taken of it
abbrev pub taken : ℕ → List DemuxStep → List ℕ
taken number [] = []
taken number (step ∷ steps) = taken number steps ++ taken_by number step

-- some packets were taken whole and the others are held, and the bytes that were taken are those of the first and of the
-- part of the next
abbrev pub IsKept : ℕ → List DemuxStep → RowState → Type 0
IsKept number steps row = (whole : List (List ℕ)) × (arrived number steps ≡ whole ++ row.packets) × (taken number steps ≡ concat whole ++ take row.given (first_packet row.packets))

-- it is so of each live row after any calls
abbrev pub NothingIsLost : Type 0
NothingIsLost = (mode : Mode) (steps : List DemuxStep) (table : TableState) → Leads mode steps table → (number place : ℕ) → RowStands table.rows number place → IsKept number steps (row_at table.rows place)

-- what the call put into the row of this number came from this peer
abbrev pub IsFrom : ℕ → Peer → DemuxStep → Type 0
IsFrom number peer (Came from bytes (puts.New row)) = row ≡ number → from ≡ peer
IsFrom number peer (Came from bytes (puts.Queued row)) = row ≡ number → from ≡ peer
IsFrom number peer (Came from bytes (puts.Dropped why)) = Unit {0}
IsFrom number peer (HandedOut found) = Unit {0}
IsFrom number peer (Gave row into taken) = Unit {0}
IsFrom number peer (LetGo row) = Unit {0}
IsFrom number peer TurnedAway = Unit {0}
IsFrom number peer (Told found) = Unit {0}

-- all that was put into it did
abbrev pub AllFrom : ℕ → Peer → List DemuxStep → Type 0
AllFrom number peer [] = Unit {0}
AllFrom number peer (step ∷ steps) = IsFrom number peer step × AllFrom number peer steps

-- what arrived at a live row came from its sender
abbrev pub PacketsAreTheSenders : Type 0
PacketsAreTheSenders = (mode : Mode) (steps : List DemuxStep) (table : TableState) → Leads mode steps table → (number place : ℕ) → RowStands table.rows number place → AllFrom number (row_at table.rows place).peer steps

-- in a table by senders no two live rows have the same one
abbrev pub OneRowASender : Type 0
OneRowASender = (steps : List DemuxStep) (table : TableState) → Leads modes.ByPeer steps table → (p q : ℕ) → p < length table.rows → q < length table.rows → (row_at table.rows p).peer ≡ (row_at table.rows q).peer → p ≡ q

-- the call tells that the row of this number has something, or that it has nothing
abbrev pub wakes : ℕ → DemuxStep → Bool → Bool
wakes number (Came from bytes (puts.New row)) before = (row == number) || before
wakes number (Came from bytes (puts.Queued row)) before = before
wakes number (Came from bytes (puts.Dropped why)) before = before
wakes number (HandedOut found) before = before
wakes number (Gave row into (takes.Bytes count)) before = before
wakes number (Gave row into takes.Empty) before = before
wakes number (Gave row into takes.End) before = before
wakes number (Gave row into takes.NotYet) before = not (row == number) && before
wakes number (LetGo row) before = before
wakes number TurnedAway before = before
wakes number (Told None) before = before
wakes number (Told (Some row)) before = (row == number) || before

-- whoever takes from the row of this number knows that it may have something: that was the last that the calls told
abbrev pub is_awake : ℕ → List DemuxStep → Bool
is_awake number [] = false
is_awake number (step ∷ steps) = wakes number step (is_awake number steps)

-- after any calls a live row that holds packets calls, unless whoever takes from it knows
abbrev pub NobodyWaitsInVain : Type 0
NobodyWaitsInVain = (mode : Mode) (steps : List DemuxStep) (table : TableState) → Leads mode steps table → (number place : ℕ) → RowStands table.rows number place → is_awake number steps ≡ false → 0 < length (row_at table.rows place).packets → list_any (λ n. n == number) table.calling ≡ true
