-- What a script makes of writes, and what is left of it then.
use Rattle.std.specs.Prelude.{◌<◌, ◌≤◌, ℕ, Bool, false, List, Option, None, Some, min, not, nat_lt, ⊤, if◌then◌else◌}
use Rattle.relay_model.specs.{Place}
use Rattle.scripted_world.specs.declared.lines.PlacedItem.{PlacedItem}
use Rattle.scripted_world.specs.declared.items.WriteItem.{WriteItem}
use Rattle.scripted_world.specs.declared.items.WriteItem.TheVariants as items
use Rattle.scripted_world.specs.declared.writing.Writing.{Writing}
use Rattle.scripted_world.specs.declared.writing.Writing.TheVariants as writings
use Rattle.scripted_world.specs.declared.writing.DueWrite.{DueWrite}
use Rattle.scripted_world.specs.declared.writing.TakenNow.{TakenNow}
use Rattle.scripted_world.specs.declared.writing.TakenNow.TheVariants as taken
use Rattle.scripted_world.specs.Lines.{next_of, used_up}

-- the number of an item that takes bytes isn't 0
abbrev pub HasCount : WriteItem → Type 0
HasCount (items.Upto most) = 0 < most
HasCount items.NotYet = ⊤
HasCount items.Fault = ⊤

-- what an item of writes does
abbrev pub writing_of : WriteItem → Writing
writing_of (items.Upto most) = writings.Upto most
writing_of items.NotYet = writings.NotYet
writing_of items.Fault = writings.Fault

-- an item of writes from a moment on
abbrev pub due_write : ℕ → WriteItem → DueWrite
due_write at item = record { at = at; writing = writing_of item }

-- what becomes of a write of so many bytes by what is due
abbrev pub takes_due : Writing → ℕ → TakenNow
takes_due (writings.Upto most) count = taken.Upto (min count most)
takes_due writings.NotYet count = taken.NotYet
takes_due writings.Fault count = taken.Fault

-- what becomes of a write at this moment, by the next item of its place: with none left all bytes are taken
abbrev pub write_taken : Option DueWrite → ℕ → ℕ → TakenNow
write_taken None now count = taken.Upto count
write_taken (Some line) now count = if nat_lt now line.at then taken.NotYet else takes_due line.writing count

-- the bytes taken are no more than were offered
abbrev pub TakenFits : ℕ → TakenNow → Type 0
TakenFits count (taken.Upto n) = (0 < n) × (n ≤ count)
TakenFits count taken.NotYet = ⊤
TakenFits count taken.Fault = ⊤

-- whether there is an item, and its moment has come
abbrev pub is_due : Option DueWrite → ℕ → Bool
is_due None now = false
is_due (Some line) now = not (nat_lt now line.at)

-- the items after a write: it used the next one of its place up, if that was due
abbrev pub writes_left : List (PlacedItem DueWrite) → Place → ℕ → List (PlacedItem DueWrite)
writes_left lines p now = if is_due (next_of lines p) now then used_up lines p else lines
