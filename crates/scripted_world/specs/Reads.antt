-- What a script gives to reads, and what is left of it then.
use Rattle.std.specs.Prelude.{◌≡◌, ◌<◌, ◌≤◌, ℕ, Bool, false, List, [], ◌∷◌, Option, None, Some, length, take, drop, min, nat_lt, ⊤, if◌then◌else◌}
use Rattle.relay_model.specs.{Place, same_place}
use Rattle.scripted_world.specs.declared.lines.PlacedItem.{PlacedItem}
use Rattle.scripted_world.specs.declared.items.ReadItem.{ReadItem}
use Rattle.scripted_world.specs.declared.items.ReadItem.TheVariants as items
use Rattle.scripted_world.specs.declared.reading.Reading.{Reading}
use Rattle.scripted_world.specs.declared.reading.Reading.TheVariants as readings
use Rattle.scripted_world.specs.declared.reading.DueRead.{DueRead}
use Rattle.scripted_world.specs.declared.reading.Given.{Given}
use Rattle.scripted_world.specs.declared.reading.Given.TheVariants as given
use Rattle.scripted_world.specs.Lines.{used_up}

-- an item of bytes isn't empty
abbrev pub HasBytes : ReadItem → Type 0
HasBytes (items.Bytes bytes) = 0 < length bytes
HasBytes items.Empty = ⊤
HasBytes items.End = ⊤
HasBytes items.Fault = ⊤

-- what an item of reads brings
abbrev pub reading_of : ReadItem → Reading
reading_of (items.Bytes bytes) = readings.Bytes bytes
reading_of items.Empty = readings.Empty
reading_of items.End = readings.End
reading_of items.Fault = readings.Fault

-- an item of reads from a moment on
abbrev pub due_read : ℕ → ReadItem → DueRead
due_read at item = record { at = at; reading = reading_of item }

-- what a read with this much room is given from what is due: no more bytes than it has room for
abbrev pub gives_due : Reading → ℕ → Given
gives_due (readings.Bytes bytes) room = given.Bytes (min (length bytes) room)
gives_due readings.Empty room = given.Empty
gives_due readings.End room = given.End
gives_due readings.Fault room = given.Fault

-- what an item gives at this moment: nothing yet before its own
abbrev pub gives : DueRead → ℕ → ℕ → Given
gives line now room = if nat_lt now line.at then given.NotYet else gives_due line.reading room

-- what a read gives at this moment, by the next item of its place
abbrev pub read_given : Option DueRead → ℕ → ℕ → Given
read_given None now room = given.NotYet
read_given (Some line) now room = gives line now room

-- the bytes given fit the room
abbrev pub GivenFits : ℕ → Given → Type 0
GivenFits room (given.Bytes n) = (0 < n) × (n ≤ room)
GivenFits room given.Empty = ⊤
GivenFits room given.End = ⊤
GivenFits room given.NotYet = ⊤
GivenFits room given.Fault = ⊤

-- the bytes of an item that are left
abbrev pub bytes_of : Reading → List ℕ
bytes_of (readings.Bytes bytes) = bytes
bytes_of readings.Empty = []
bytes_of readings.End = []
bytes_of readings.Fault = []

-- the bytes of the next item
abbrev pub next_bytes : Option DueRead → List ℕ
next_bytes None = []
next_bytes (Some line) = bytes_of line.reading

-- the bytes that are given are the item's first
abbrev pub GivesBytes : Given → List ℕ → List ℕ → Type 0
GivesBytes (given.Bytes n) into bytes = take n into ≡ take n bytes
GivesBytes given.Empty into bytes = ⊤
GivesBytes given.End into bytes = ⊤
GivesBytes given.NotYet into bytes = ⊤
GivesBytes given.Fault into bytes = ⊤

-- whether any bytes are left after so many more
abbrev pub has_more : Reading → ℕ → Bool
has_more (readings.Bytes bytes) n = nat_lt n (length bytes)
has_more readings.Empty n = false
has_more readings.End n = false
has_more readings.Fault n = false

-- what is left after so many bytes more
abbrev pub rest_of : Reading → ℕ → Reading
rest_of (readings.Bytes bytes) n = readings.Bytes (drop n bytes)
rest_of readings.Empty n = readings.Empty
rest_of readings.End n = readings.End
rest_of readings.Fault n = readings.Fault

-- an item without its first bytes
abbrev pub line_left : PlacedItem DueRead → ℕ → PlacedItem DueRead
line_left line n = record { place = line.place; item = record { at = line.item.at; reading = rest_of line.item.reading n } }

-- the items after so many bytes of the next one of a place were given: its rest stays in its stead
abbrev pub bytes_left : List (PlacedItem DueRead) → Place → ℕ → List (PlacedItem DueRead)
bytes_left [] p n = []
bytes_left (line ∷ lines) p n = if same_place line.place p then (if has_more line.item.reading n then line_left line n ∷ lines else lines) else line ∷ bytes_left lines p n

-- the items after a read of a place was given this
abbrev pub reads_left : Given → List (PlacedItem DueRead) → Place → List (PlacedItem DueRead)
reads_left (given.Bytes n) lines p = bytes_left lines p n
reads_left given.Empty lines p = used_up lines p
reads_left given.End lines p = used_up lines p
reads_left given.NotYet lines p = lines
reads_left given.Fault lines p = used_up lines p
