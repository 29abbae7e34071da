-- The bytes of a chunk, wherever they lie.
use Rattle.std.specs.Prelude.{ℕ, ◌≤◌, List, [], length, drop, Option, None, Some}
use Rattle.ring_queue.specs.declared.items.Store.{Store}
use Rattle.ring_queue.specs.declared.items.Store.TheVariants as stores

-- the bytes of a store, in the item or in a page
abbrev pub stored : Store → List ℕ
stored (stores.Here few) = few
stored (stores.There page) = page

-- the bytes of a chunk from there on
abbrev pub rest_of : Option (List ℕ) → ℕ → List ℕ
rest_of None from = []
rest_of (Some chunk) from = drop from chunk

-- what is handed out begins within the chunk
abbrev pub Within : Option (List ℕ) → ℕ → Type 0
Within None from = Unit {0}
Within (Some chunk) from = from ≤ length chunk
