-- What contracts see of a table of peers, and what its calls do.
use Rattle.std.specs.Prelude.{◌≡◌, ◌≢◌, ℕ, ◌+◌, ◌-◌, ◌^◌, ◌<◌, ◌≤◌, Bool, true, false, ◌==◌, ◌&&◌, ◌⊎◌, not, List, [], ◌∷◌, ◌++◌, length, set, take, min, slice_index_or, Option, None, Some, if◌then◌else◌}
use Rattle.std.specs.List.{list_any, remove}
use Rattle.relay_model.specs.{Peer}
use Rattle.relay_model.specs.declared.acts.Peer.TheVariants as peers
use Rattle.peer_demux.specs.declared.answers.Mode.{Mode}
use Rattle.peer_demux.specs.declared.answers.Mode.TheVariants as modes
use Rattle.peer_demux.specs.declared.answers.Lost.{Lost}
use Rattle.peer_demux.specs.declared.answers.Lost.TheVariants as losses
use Rattle.peer_demux.specs.declared.answers.Put.{Put}
use Rattle.peer_demux.specs.declared.answers.Put.TheVariants as puts
use Rattle.peer_demux.specs.declared.answers.Taken.{Taken}
use Rattle.peer_demux.specs.declared.answers.Taken.TheVariants as takes
use Rattle.peer_demux.specs.Rows.{RowState, GivesPart, fresh_row, is_full}

-- its live rows in the order of their numbers, the numbers of those that call: a packet came while they held none, and
-- nobody was told; how many rows were made, the number below which the live rows were handed out, and how many packets
-- were dropped
pub record TableState : Type 0 where
  pub mode : Mode
  pub rows : List RowState
  pub calling : List ℕ
  pub made : ℕ
  pub handed : ℕ
  pub lost : ℕ

-- a table that has seen no packet
abbrev pub fresh_table : Mode → TableState
fresh_table mode = record { mode = mode; rows = []; calling = []; made = 0; handed = 0; lost = 0 }

-- a count of 64 bits, which stays at its last value
abbrev pub risen : ℕ → ℕ
risen count = min (count + 1) (2 ^ 64 - 1)

-- one more where this has happened
abbrev pub risen_if : Bool → ℕ → ℕ
risen_if happened count = if happened then risen count else count

-- a row that no place has
abbrev pub no_row : RowState
no_row = record { number = 0; peer = peers.Local; packets = []; given = 0 }

-- the row at this place
abbrev pub row_at : List RowState → ℕ → RowState
row_at rows place = slice_index_or rows place no_row

-- the numbers of the rows rise
abbrev pub IsRising : List RowState → Type 0
IsRising rows = (i j : ℕ) → i < j → j < length rows → (row_at rows i).number < (row_at rows j).number

-- the numbers of the rows rise, and are numbers of rows that were made
pub record IsRowTable (rows : List RowState) (made : ℕ) : Type 0 where
  pub rising : IsRising rows
  pub below : (i : ℕ) → i < length rows → (row_at rows i).number < made

-- the live row of this number stands at this place
pub record RowStands (rows : List RowState) (number place : ℕ) : Type 0 where
  pub within : place < length rows
  pub here : (row_at rows place).number ≡ number

-- a live row has this number
abbrev pub IsLive : List RowState → ℕ → Type 0
IsLive rows number = (place : ℕ) × RowStands rows number place

-- the row of this sender stands at this place, in a table that sorts by senders
pub record IsSender (table : TableState) (from : Peer) (number place : ℕ) : Type 0 where
  pub by_peer : table.mode ≡ modes.ByPeer
  pub stands : RowStands table.rows number place
  pub whose : (row_at table.rows place).peer ≡ from

-- no live row is looked for, or none is this sender's
abbrev pub IsUnknown : TableState → Peer → Type 0
IsUnknown table from = table.mode ≡ modes.ByPeer → (i : ℕ) → i < length table.rows → (row_at table.rows i).peer ≢ from

-- a new row has the packet
pub record OpensRow (before now : TableState) (from : Peer) (bytes : List ℕ) (number : ℕ) : Type 0 where
  pub unknown : IsUnknown before from
  pub few : length before.rows < 4096
  pub fresh : before.made < 2 ^ 32 - 1
  pub next : number ≡ before.made
  pub left : now ≡ record before { rows = before.rows ++ fresh_row number from bytes ∷ []; made = before.made + 1 }

-- the row of this number calls, once, where it held no packet
abbrev pub with_call : List ℕ → ℕ → Bool → List ℕ
with_call calling number silent = if silent && not (list_any (λ n. n == number) calling) then calling ++ number ∷ [] else calling

-- the table with one packet more at the row at this place
abbrev pub with_packet : TableState → ℕ → List ℕ → TableState
with_packet table place bytes =
    record table { calling = with_call table.calling (row_at table.rows place).number (length (row_at table.rows place).packets == 0); rows = set table.rows place (record (row_at table.rows place) { packets = (row_at table.rows place).packets ++ bytes ∷ [] }) }

-- the row of the sender has the packet behind all others
pub record QueuesPacket (before now : TableState) (from : Peer) (bytes : List ℕ) (number place : ℕ) : Type 0 where
  pub sender : IsSender before from number place
  pub room : is_full (row_at before.rows place) (length bytes) ≡ false
  pub left : now ≡ with_packet before place bytes

-- the sender has a row that is full
pub record IsRowFull (table : TableState) (from : Peer) (count number place : ℕ) : Type 0 where
  pub sender : IsSender table from number place
  pub full : is_full (row_at table.rows place) count ≡ true

-- a new row may be made for this sender
pub record MayOpen (table : TableState) (from : Peer) : Type 0 where
  pub unknown : IsUnknown table from
  pub few : length table.rows < 4096
  pub fresh : table.made < 2 ^ 32 - 1

-- the row of this sender has room for so many bytes
pub record MayQueue (table : TableState) (from : Peer) (count number place : ℕ) : Type 0 where
  pub sender : IsSender table from number place
  pub room : is_full (row_at table.rows place) count ≡ false

-- why a packet of this sender can't be held; memory may be wanting only for one that would be held otherwise
abbrev pub IsLoss : TableState → Peer → List ℕ → Lost → Type 0
IsLoss table from bytes (losses.RowFull number) = (place : ℕ) × IsRowFull table from (length bytes) number place
IsLoss table from bytes losses.Rows = IsUnknown table from × (4096 ≤ length table.rows)
IsLoss table from bytes losses.Numbers = IsUnknown table from × (length table.rows < 4096) × (table.made ≡ 2 ^ 32 - 1)
IsLoss table from bytes losses.Memory = MayOpen table from ⊎ ((number : ℕ) × (place : ℕ) × MayQueue table from (length bytes) number place)

-- what becomes of a packet
abbrev pub IsPut : TableState → TableState → Peer → List ℕ → Put → Type 0
IsPut before now from bytes (puts.New number) = OpensRow before now from bytes number
IsPut before now from bytes (puts.Queued number) = (place : ℕ) × QueuesPacket before now from bytes number place
IsPut before now from bytes (puts.Dropped why) = IsLoss before from bytes why × (now ≡ record before { lost = risen before.lost })

-- the first row that wasn't handed out is handed out
pub record HandsOut (before now : TableState) (number place : ℕ) (peer : Peer) : Type 0 where
  pub stands : RowStands before.rows number place
  pub whose : peer ≡ (row_at before.rows place).peer
  pub unhanded : before.handed ≤ number
  pub first : (i : ℕ) → i < place → (row_at before.rows i).number < before.handed
  pub left : now ≡ record before { handed = number + 1 }

-- all live rows were handed out, or the first of the others is
abbrev pub IsNext : TableState → TableState → Option (ℕ × Peer) → Type 0
IsNext before now None = (now ≡ before) × ((i : ℕ) → i < length before.rows → (row_at before.rows i).number < before.handed)
IsNext before now (Some (number, peer)) = (place : ℕ) × HandsOut before now number place peer

-- the row at this place gives so many bytes of its first packet
pub record GivesAt (before now : TableState) (into : List ℕ) (place count : ℕ) : Type 0 where
  pub part : GivesPart (row_at before.rows place) (row_at now.rows place) into count
  pub left : now ≡ record before { rows = set before.rows place (row_at now.rows place) }

-- a row without packets gives none, and nothing changes
pub record GivesNone (before now : TableState) (place : ℕ) : Type 0 where
  pub none : length (row_at before.rows place).packets ≡ 0
  pub left : now ≡ before

-- what comes of the first packet of the row at this place
abbrev pub GivesOne : TableState → TableState → List ℕ → ℕ → Option ℕ → Type 0
GivesOne before now into place None = GivesNone before now place
GivesOne before now into place (Some count) = GivesAt before now into place count

-- what a row without packets answers: more may come of a peer, and nothing behind a packet
abbrev pub nothing_of : Mode → Taken
nothing_of modes.ByPeer = takes.NotYet
nothing_of modes.ByPacket = takes.End

-- what the row at this place gives
abbrev pub GivesTaken : TableState → TableState → List ℕ → ℕ → Taken → Type 0
GivesTaken before now into place (takes.Bytes count) = (0 < count) × GivesAt before now into place count
GivesTaken before now into place takes.Empty = GivesAt before now into place 0
GivesTaken before now into place takes.NotYet = (before.mode ≡ modes.ByPeer) × GivesNone before now place
GivesTaken before now into place takes.End = (before.mode ≡ modes.ByPacket) × GivesNone before now place

-- what the row of this number gives
abbrev pub IsTaken : TableState → TableState → ℕ → List ℕ → Taken → Type 0
IsTaken before now number into taken = (place : ℕ) × RowStands before.rows number place × GivesTaken before now into place taken

-- the row of this number is live no more, and all others are as before
abbrev pub IsDropped : TableState → TableState → ℕ → Type 0
IsDropped before now number = (place : ℕ) × RowStands before.rows number place × (now ≡ record before { rows = remove before.rows place })

-- a live row wasn't handed out, or all were
abbrev pub HasNew : TableState → Bool → Type 0
HasNew table true = (place : ℕ) × (place < length table.rows) × (table.handed ≤ (row_at table.rows place).number)
HasNew table false = (i : ℕ) → i < length table.rows → (row_at table.rows i).number < table.handed

-- the first so many rows, which were handed out, are kept, and those behind them, which weren't, are gone
pub record Keeps (before now : TableState) (count : ℕ) : Type 0 where
  pub handed : (i : ℕ) → i < count → (row_at before.rows i).number < before.handed
  pub others : (i : ℕ) → count ≤ i → i < length before.rows → before.handed ≤ (row_at before.rows i).number
  pub left : now ≡ record before { rows = take count before.rows }

-- the rows that weren't handed out are gone, and all others are as before
abbrev pub IsTrimmed : TableState → TableState → Type 0
IsTrimmed before now = (count : ℕ) × Keeps before now count

-- no row calls, or the first that does is told of
abbrev pub IsNextCall : TableState → TableState → Option ℕ → Type 0
IsNextCall before now None = (before.calling ≡ []) × (now ≡ before)
IsNextCall before now (Some number) = (before.calling ≡ number ∷ now.calling) × (now ≡ record before { calling = now.calling })
