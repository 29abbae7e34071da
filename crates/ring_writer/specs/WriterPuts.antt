-- What the port's side of a writer keeps, and what it puts.
use Rattle.std.specs.Prelude.{◌≡◌, ℕ, ◌+◌, ◌≤◌, true, false, List, [], ◌∷◌, ◌++◌, length, take, if◌then◌else◌}
use Rattle.crossbeam_queue.specs.Passes.{view, IsPassOf, ruled_capacity}
use Rattle.crossbeam_queue.specs.Fifo.{Held}
use Rattle.port_trait.specs.{Took as WriteAnswer}
use Rattle.port_trait.specs.declared.answers.Took.TheVariants as writes
use Rattle.ring_queue.specs.{RingItem, bytes_of, is_end_mark, last_is, marks, told}
use Rattle.ring_queue.specs.declared.items.RingItem.TheVariants as items
use Rattle.ring_writer.specs.declared.writer_puts.Putter.{Putter}

-- a chunk of the front of the bytes was put, or nothing
abbrev pub PutsChunk : List RingItem → List RingItem → List ℕ → WriteAnswer → Type 0
PutsChunk before now bytes (writes.Took n) = (1 ≤ n) × (n ≤ length bytes) × (n ≤ 512) × (now ≡ before ++ items.Chunk (take n bytes) ∷ [])
PutsChunk before now bytes writes.NotYet = now ≡ before
PutsChunk before now bytes writes.Failed = now ≡ before

-- so many fault marks were taken by then: one more at each fault
abbrev pub marks_after : ℕ → WriteAnswer → ℕ
marks_after count (writes.Took n) = count
marks_after count writes.NotYet = count
marks_after count writes.Failed = count + 1

-- at a moment the queue was full of what was put last
abbrev pub WasFull : List RingItem → Type 0
WasFull sent = Held 64 (λ held. (taken : List RingItem) × (sent ≡ taken ++ held))

-- where there is no room, the queue was full
abbrev pub FullWhereNoRoom : List RingItem → WriteAnswer → Type 0
FullWhereNoRoom sent (writes.Took n) = Unit {0}
FullWhereNoRoom sent writes.NotYet = WasFull sent
FullWhereNoRoom sent writes.Failed = Unit {0}

-- the port puts the items of these queues, and takes the marks that go back; it puts at most one end mark, and
-- nothing after it
pub record IsPutting (putter : Putter) : Type 0 where
  pub sender_of : IsPassOf putter.lines.value.items putter.sender
  pub sends : (view putter.sender).sends ≡ true
  pub taker_of : IsPassOf putter.lines.value.back putter.taker
  pub takes : (view putter.taker).takes ≡ true
  pub room : ruled_capacity putter.lines.value.items ≡ 64
  pub count : putter.count ≡ told (bytes_of (view putter.sender).sent)
  pub marked : marks (view putter.sender).sent ≡ (if putter.ended then 1 else 0)
  pub ended : last_is is_end_mark (view putter.sender).sent ≡ putter.ended

-- bytes may be put: the end mark wasn't
pub record CanPut (putter : Putter) : Type 0 where
  pub putting : IsPutting putter
  pub unended : putter.ended ≡ false

-- the port goes on with the same queues, and puts no end mark
pub record KeepsPutting (before now : Putter) : Type 0 where
  pub putting : IsPutting now
  pub lines : now.lines ≡ before.lines
  pub ended : now.ended ≡ before.ended
