-- What a script still has to give to the reads of a place.
use Rattle.std.specs.Prelude.{ℕ, Bool, true, false, ◌&&◌, List, [], ◌∷◌, ◌++◌, if◌then◌else◌}
use Rattle.relay_model.specs.{Place, same_place, is_empty}
use Rattle.scripted_world.specs.{PlacedItem, DueRead, Reading, bytes_of}
use Rattle.scripted_world.specs.declared.reading.Reading.TheVariants as readings

-- the bytes that these items have for a place
abbrev pub left_of : List (PlacedItem DueRead) → Place → List ℕ
left_of [] p = []
left_of (line ∷ lines) p = if same_place line.place p then bytes_of line.item.reading ++ left_of lines p else left_of lines p

-- an item that ends the input
abbrev pub is_end : Reading → Bool
is_end (readings.Bytes bytes) = false
is_end readings.Empty = false
is_end readings.End = true
is_end readings.Fault = false

-- behind the first end of a place no bytes for it are left
abbrev pub ends_last : List (PlacedItem DueRead) → Place → Bool
ends_last [] p = true
ends_last (line ∷ lines) p = if same_place line.place p && is_end line.item.reading then is_empty (left_of lines p) else ends_last lines p
