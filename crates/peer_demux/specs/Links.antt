-- What the calls of a socket do to what it gave and sent. A list that isn't told is None before and after.
use Rattle.std.specs.Prelude.{◌≡◌, ℕ, ◌≤◌, Bool, true, false, List, [], ◌∷◌, ◌++◌, length, take, Option, option_map}
use Rattle.relay_model.specs.{longest_packet, Peer}
use Rattle.port_trait.specs.{Took as WriteAnswer}
use Rattle.port_trait.specs.declared.answers.Took.TheVariants as writes
use Rattle.peer_demux.specs.declared.links.Received.{Received}
use Rattle.peer_demux.specs.declared.links.Received.TheVariants as gots
use Rattle.peer_demux.specs.declared.mem_link.LinkItem.{LinkItem}
use Rattle.peer_demux.specs.declared.mem_link.LinkItem.TheVariants as items

-- a peer and a packet, from or to it
abbrev pub Packet : Type 0
Packet = Peer × List ℕ

-- these packets were added to what is told
abbrev pub Adds : Option (List Packet) → Option (List Packet) → List Packet → Type 0
Adds before now more = now ≡ option_map (λ all. all ++ more) before

-- a receiving adds its packet, which has at most 65,507 bytes
abbrev pub Receives : Option (List Packet) → Option (List Packet) → List ℕ → Received → Type 0
Receives before now into (gots.Packet from len) = (len ≤ longest_packet) × Adds before now ((from, take len into) ∷ [])
Receives before now into gots.NotYet = now ≡ before
Receives before now into gots.Failed = now ≡ before

-- a receiving failed
abbrev pub has_failed : Received → Bool
has_failed (gots.Packet from len) = false
has_failed gots.NotYet = false
has_failed gots.Failed = true

-- there was no packet
abbrev pub has_stalled : Received → Bool
has_stalled (gots.Packet from len) = false
has_stalled gots.NotYet = true
has_stalled gots.Failed = false

-- a packet came
abbrev pub has_packet : Received → Bool
has_packet (gots.Packet from len) = true
has_packet gots.NotYet = false
has_packet gots.Failed = false

-- a packet is sent as a whole or not at all
abbrev pub Sends : Option (List Packet) → Option (List Packet) → Peer → List ℕ → WriteAnswer → Type 0
Sends before now to bytes (writes.Took count) = (count ≡ length bytes) × Adds before now ((to, bytes) ∷ [])
Sends before now to bytes writes.NotYet = now ≡ before
Sends before now to bytes writes.Failed = now ≡ before

-- a sending failed
abbrev pub send_failed : WriteAnswer → Bool
send_failed (writes.Took count) = false
send_failed writes.NotYet = false
send_failed writes.Failed = true

-- there was no room for a packet
abbrev pub send_stalled : WriteAnswer → Bool
send_stalled (writes.Took count) = false
send_stalled writes.NotYet = true
send_stalled writes.Failed = false

-- a socket in memory: its items, the first that wasn't used, and its counts
pub record MemState : Type 0 where
  pub items : List LinkItem
  pub next : ℕ
  pub faults : ℕ
  pub stalls : ℕ
  pub packets : ℕ

-- a socket in memory without items
abbrev pub fresh_link : MemState
fresh_link = record { items = []; next = 0; faults = 0; stalls = 0; packets = 0 }

-- a packet has at most 65,507 bytes
abbrev pub IsFit : LinkItem → Type 0
IsFit (items.Packet from bytes) = length bytes ≤ longest_packet
IsFit items.NotYet = Unit {0}
IsFit items.Fault = Unit {0}

-- each item is fit
abbrev pub AllFit : List LinkItem → Type 0
AllFit [] = Unit {0}
AllFit (item ∷ rest) = IsFit item × AllFit rest

-- the packet of an item
abbrev pub item_packet : LinkItem → List Packet
item_packet (items.Packet from bytes) = (from, bytes) ∷ []
item_packet items.NotYet = []
item_packet items.Fault = []

-- the packets of items
abbrev pub packets_of : List LinkItem → List Packet
packets_of [] = []
packets_of (item ∷ rest) = item_packet item ++ packets_of rest

-- the packets that were given so far
abbrev pub given_by : MemState → List Packet
given_by link = packets_of (take link.next link.items)

-- what a receiving answers to this item
abbrev pub IsGiven : LinkItem → List ℕ → Received → Type 0
IsGiven (items.Packet from bytes) into received = (received ≡ gots.Packet from (length bytes)) × (take (length bytes) into ≡ bytes)
IsGiven items.NotYet into received = received ≡ gots.NotYet
IsGiven items.Fault into received = received ≡ gots.Failed
