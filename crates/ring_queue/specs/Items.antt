-- What stands in the items that a side of a ring sent or took, oldest first.
use Rattle.std.specs.Prelude.{◌≡◌, ℕ, ◌-◌, ◌^◌, ◌≤◌, min, Bool, true, false, List, [], ◌∷◌, ◌++◌, length}
use Rattle.std.specs.List.{count_by}
use Rattle.ring_queue.specs.declared.items.RingItem.{RingItem}
use Rattle.ring_queue.specs.declared.items.RingItem.TheVariants as items

-- the bytes of an item
abbrev pub item_bytes : RingItem → List ℕ
item_bytes (items.Chunk bytes) = bytes
item_bytes (items.End count) = []
item_bytes (items.Fault count) = []

-- the bytes of the chunks, one after another
abbrev pub bytes_of : List RingItem → List ℕ
bytes_of [] = []
bytes_of (item ∷ rest) = item_bytes item ++ bytes_of rest

-- a mark of an end
abbrev pub is_end_mark : RingItem → Bool
is_end_mark (items.Chunk bytes) = false
is_end_mark (items.End count) = true
is_end_mark (items.Fault count) = false

-- a mark of a fault
abbrev pub is_fault_mark : RingItem → Bool
is_fault_mark (items.Chunk bytes) = false
is_fault_mark (items.End count) = false
is_fault_mark (items.Fault count) = true

-- a mark, and no chunk
abbrev pub is_mark : RingItem → Bool
is_mark (items.Chunk bytes) = false
is_mark (items.End count) = true
is_mark (items.Fault count) = true

-- whether the last of the items is such a one
abbrev pub last_is : (RingItem → Bool) → List RingItem → Bool
last_is kind [] = false
last_is kind (item ∷ []) = kind item
last_is kind (item ∷ next ∷ rest) = last_is kind (next ∷ rest)

-- how many marks there are
abbrev pub marks : List RingItem → ℕ
marks = count_by is_mark

-- how many marks of an end
abbrev pub end_marks : List RingItem → ℕ
end_marks = count_by is_end_mark

-- how many marks of a fault
abbrev pub fault_marks : List RingItem → ℕ
fault_marks = count_by is_fault_mark

-- what the marks tell of these bytes: their number, or the last number where there are more
abbrev pub told : List ℕ → ℕ
told bytes = min (length bytes) (2 ^ 64 - 1)

-- a chunk has 1 to 512 bytes, and a mark the number of bytes before it
abbrev pub Follows : List RingItem → RingItem → Type 0
Follows before (items.Chunk bytes) = (1 ≤ length bytes) × (length bytes ≤ 512)
Follows before (items.End count) = count ≡ told (bytes_of before)
Follows before (items.Fault count) = count ≡ told (bytes_of before)

-- chunks with these bytes were sent, and no marks
pub record AddsChunks (before now : List RingItem) (added : List ℕ) : Type 0 where
  pub bytes : bytes_of now ≡ bytes_of before ++ added
  pub no_marks : marks now ≡ marks before
  pub no_ends : end_marks now ≡ end_marks before
  pub no_faults : fault_marks now ≡ fault_marks before
