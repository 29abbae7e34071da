-- What contracts see of a socket that peers share, with the keys of their ports.
use Rattle.std.specs.Prelude.{◌≡◌, ◌≢◌, ◌⊎◌, Bool, true, false, List, Option}
use Rattle.relay_model.specs.declared.acts.Peer.TheVariants as peers
use Rattle.peer_demux.specs.{RowPeer, AcceptsRow, HubState, TakesPackets, Packet, IsTrimmed, TableState}
use Rattle.peer_demux.specs.declared.hubs.RowPeer.TheVariants as rows

-- the socket with its rows, and whether it may have packets
pub record CrowdState (L : Type 0) : Type 0 where
  pub hub : HubState L
  pub stirred : Bool

-- what the socket has was put into the rows, and those that weren't handed out may be gone then
abbrev pub Gathers : {L : Type 0} → (L → Option (List Packet)) → HubState L → HubState L → Type 0
Gathers gave before now = (mid : TableState) × (more : List Packet) × TakesPackets before.table mid (gave before.link) (gave now.link) more × ((now.table ≡ mid) ⊎ IsTrimmed mid now.table)

-- a socket that has nothing isn't asked
pub record Fills {L : Type 0} (gave : L → Option (List Packet)) (stirred : Bool) (before now : HubState L) : Type 0 where
  pub quiet : stirred ≡ false → now ≡ before
  pub filled : stirred ≡ true → Gathers gave before now

-- the first row that wasn't handed out is, or there is none
abbrev pub Accepts : TableState → TableState → RowPeer → Type 0
Accepts mid now (rows.New row peer) = AcceptsRow mid now (rows.New row peer)
Accepts mid now rows.NoPeer = AcceptsRow mid now rows.NoPeer
Accepts mid now rows.Failed = Unit {0}

-- the peer has an address
abbrev pub IsKnown : RowPeer → Type 0
IsKnown (rows.New row peer) = peer ≢ peers.Local
IsKnown rows.NoPeer = Unit {0}
IsKnown rows.Failed = Unit {0}
