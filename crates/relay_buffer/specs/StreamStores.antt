-- The bytes that a stream's store holds, and when its block is traded.
use Rattle.std.specs.Prelude.{◌≡◌, ℕ, ◌<◌, ◌≤◌, List, [], ◌++◌, length, slice_range, vec_capacity}
use Rattle.relay_buffer.specs.declared.stream_stores.StreamStore.{StreamStore}

-- the bytes that wait: those in the block, then those in the ring
abbrev pub store_bytes : StreamStore → List ℕ
store_bytes store = slice_range store.block.items store.from store.to ++ store.ring.items

-- nothing waits, so the first bytes of another block may wait where they are, and the own block can be as long as that one
pub record CanTrade (store : StreamStore) (block : List ℕ) (count : ℕ) : Type 0 where
  pub some : 0 < count
  pub empty : store_bytes store ≡ []
  pub fits : length block ≤ vec_capacity store.block
