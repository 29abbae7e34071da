-- The bytes that a backlog holds, and how many it could.
use Rattle.std.specs.Prelude.{◌≡◌, ℕ, ◌*◌, ◌≤◌, Bool, true, false, List, length, min, IfSome, is_some, vec_capacity, if◌then◌else◌}
use Rattle.relay_model.specs.{longest_packet, packet_cap}
use Rattle.relay_buffer.specs.declared.lanes.Lane.{Lane}
use Rattle.relay_buffer.specs.declared.backlogs.Backlog.{Backlog}
use Rattle.relay_buffer.specs.declared.backlogs.Backlog.TheVariants.{Stream, Packet}
use Rattle.relay_buffer.specs.StreamStores.{store_bytes, CanTrade}

-- the bytes that wait
abbrev pub held_bytes : Backlog → List ℕ
held_bytes (Stream store) = store_bytes store
held_bytes (Packet bytes) = bytes.items

-- for how many bytes there is room
abbrev pub held_capacity : Backlog → ℕ
held_capacity (Stream store) = store.ring.capacity
held_capacity (Packet bytes) = vec_capacity bytes

-- borders are kept
abbrev pub is_packet : Backlog → Bool
is_packet (Stream store) = false
is_packet (Packet bytes) = true

-- the same kind of store, with no less room than before
pub record IsSameStore (old new : Backlog) : Type 0 where
  pub kind : is_packet new ≡ is_packet old
  pub capacity : held_capacity old ≤ held_capacity new

-- the first bytes of this block may wait where they are: a packet's never do
abbrev pub IsTradable : Backlog → List ℕ → ℕ → Type 0
IsTradable (Stream store) block count = CanTrade store block count
IsTradable (Packet bytes) block count = ⊥

-- how many bytes may wait at once
abbrev pub most_held : Lane → ℕ
most_held lane = if is_some lane.packets then min (2 * lane.block) longest_packet else 2 * lane.block

-- the store is of the lane's kind, and no more waits in it than may, for which it has room
pub record CanHold (lane : Lane) (held : Backlog) : Type 0 where
  pub kind : is_packet held ≡ is_some lane.packets
  pub cap : IfSome lane.packets (λ cap. cap ≡ packet_cap lane.how.write)
  pub within : length (held_bytes held) ≤ most_held lane
  pub room : most_held lane ≤ held_capacity held
