-- What contracts see of a socket and the table of its packets.
use Rattle.std.specs.Prelude.{◌≡◌, ℕ, zero, suc, ◌≤◌, Bool, true, false, List, [], ◌∷◌, length, Option, Some, None}
use Rattle.port_trait.specs.{Got}
use Rattle.port_trait.specs.declared.answers.Got.TheVariants as reads
use Rattle.peer_demux.specs.declared.answers.Put.{Put}
use Rattle.peer_demux.specs.declared.answers.Mode.{Mode}
use Rattle.peer_demux.specs.declared.answers.Taken.{Taken}
use Rattle.peer_demux.specs.declared.answers.Taken.TheVariants as takes
use Rattle.peer_demux.specs.declared.hubs.RowPeer.{RowPeer}
use Rattle.peer_demux.specs.declared.hubs.RowPeer.TheVariants as rows
use Rattle.peer_demux.specs.declared.links.Received.{Received}
use Rattle.peer_demux.specs.declared.links.Received.TheVariants as gots
use Rattle.peer_demux.specs.Links.{Packet, Adds}
use Rattle.peer_demux.specs.Tables.{TableState, IsPut, IsNext, IsTaken, fresh_table, risen}

-- the socket, the table, and whether packets may wait that the system won't tell of again
pub record HubState (L : Type 0) : Type 0 where
  pub link : L
  pub table : TableState
  pub left_off : Bool

-- a hub that was just made over this socket
abbrev pub fresh_hub : {L : Type 0} → L → Mode → HubState L
fresh_hub link mode = record { link = link; table = fresh_table mode; left_off = false }

-- the table has taken exactly these packets, in order
abbrev pub Absorbs : TableState → List Packet → TableState → Type 0
Absorbs before [] now = now ≡ before
Absorbs before (packet ∷ more) now = (mid : TableState) × (put : Put) × IsPut before mid packet.0 packet.1 put × Absorbs mid more now

-- the packets by which what the socket gave has grown are those that the table has taken, at most 64 of them
pub record TakesPackets (before now : TableState) (gave_before gave_now : Option (List Packet)) (more : List Packet) : Type 0 where
  pub absorbed : Absorbs before more now
  pub told : Adds gave_before gave_now more
  pub few : length more ≤ 64

-- what a receiving makes of the table: a packet is put into it
abbrev pub TakesOne : TableState → TableState → Option (List Packet) → Option (List Packet) → Received → Type 0
TakesOne before now gave_before gave_now (gots.Packet from len) = (bytes : List ℕ) × (put : Put) × IsPut before now from bytes put × Adds gave_before gave_now ((from, bytes) ∷ [])
TakesOne before now gave_before gave_now gots.NotYet = (now ≡ before) × (gave_now ≡ gave_before)
TakesOne before now gave_before gave_now gots.Failed = (now ≡ before) × (gave_now ≡ gave_before)

-- a count that rose so often
abbrev pub risen_by : ℕ → ℕ → ℕ
risen_by zero count = count
risen_by (suc n) count = risen (risen_by n count)

-- the answer of a read that took so
abbrev pub got_of : Taken → Got
got_of (takes.Bytes count) = reads.Bytes count
got_of takes.Empty = reads.Empty
got_of takes.NotYet = reads.NotYet
got_of takes.End = reads.End

-- what a read makes of the table after the receiving
abbrev pub ReadsRow : TableState → TableState → ℕ → List ℕ → Got → Type 0
ReadsRow mid now number into (reads.Bytes count) = IsTaken mid now number into (takes.Bytes count)
ReadsRow mid now number into reads.Empty = IsTaken mid now number into takes.Empty
ReadsRow mid now number into reads.End = IsTaken mid now number into takes.End
ReadsRow mid now number into reads.NotYet = IsTaken mid now number into takes.NotYet
ReadsRow mid now number into reads.Failed = now ≡ mid

-- a read failed
abbrev pub read_failed : Got → Bool
read_failed (reads.Bytes count) = false
read_failed reads.Empty = false
read_failed reads.End = false
read_failed reads.NotYet = false
read_failed reads.Failed = true

-- what an accepting makes of the table after the receiving
abbrev pub AcceptsRow : TableState → TableState → RowPeer → Type 0
AcceptsRow mid now (rows.New number peer) = IsNext mid now (Some (number, peer))
AcceptsRow mid now rows.NoPeer = IsNext mid now None
AcceptsRow mid now rows.Failed = now ≡ mid

-- an accepting failed
abbrev pub accept_failed : RowPeer → Bool
accept_failed (rows.New number peer) = false
accept_failed rows.NoPeer = false
accept_failed rows.Failed = true

-- the socket had no more, or it gave 64 packets and there may be more
pub record Drains (failed left_off : Bool) (stalls_before stalls_now packets_before packets_now : ℕ) : Type 0 where
  pub emptied : failed ≡ false → left_off ≡ false → stalls_now ≡ risen stalls_before
  pub more : left_off ≡ true → packets_now ≡ risen_by 64 packets_before
