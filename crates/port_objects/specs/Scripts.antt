-- What a port in memory is to answer to its reads, and what it has given.
use Rattle.std.specs.Prelude.{◌≡◌, ℕ, zero, suc, ◌+◌, ◌-◌, ◌<◌, ◌≤◌, min, Bool, nat_lt, List, [], ◌∷◌, ◌++◌, length, take, Option, None, Some, if◌then◌else◌}
use Rattle.port_trait.specs.{Got}
use Rattle.port_trait.specs.declared.answers.Got.TheVariants as reads
use Rattle.port_objects.specs.declared.scripts.PortItem.{PortItem}
use Rattle.port_objects.specs.declared.scripts.PortItem.TheVariants as items

-- the items, the first that wasn't used up, and how many of its bytes were given
pub record ScriptState : Type 0 where
  pub items : List PortItem
  pub next : ℕ
  pub at : ℕ

-- a script without items
abbrev pub fresh_script : ScriptState
fresh_script = record { items = []; next = 0; at = 0 }

-- bytes that are to be given are at least one
abbrev pub IsFilled : PortItem → Type 0
IsFilled (items.Bytes bytes) = 0 < length bytes
IsFilled items.Empty = Unit {0}
IsFilled items.End = Unit {0}
IsFilled items.NotYet = Unit {0}
IsFilled items.Fault = Unit {0}

-- each item of bytes has some
abbrev pub AllFilled : List PortItem → Type 0
AllFilled [] = Unit {0}
AllFilled (item ∷ rest) = IsFilled item × AllFilled rest

-- of the item that is next, some bytes are left
abbrev pub IsWithin : Option PortItem → ℕ → Type 0
IsWithin None at = at ≡ 0
IsWithin (Some (items.Bytes bytes)) at = at < length bytes
IsWithin (Some items.Empty) at = at ≡ 0
IsWithin (Some items.End) at = at ≡ 0
IsWithin (Some items.NotYet) at = at ≡ 0
IsWithin (Some items.Fault) at = at ≡ 0

-- the bytes of an item
abbrev pub item_bytes : PortItem → List ℕ
item_bytes (items.Bytes bytes) = bytes
item_bytes items.Empty = []
item_bytes items.End = []
item_bytes items.NotYet = []
item_bytes items.Fault = []

-- the bytes of the items before the next, and the first so many of that
abbrev pub given : List PortItem → ℕ → ℕ → List ℕ
given [] next at = []
given (item ∷ rest) zero at = take at (item_bytes item)
given (item ∷ rest) (suc next) at = item_bytes item ++ given rest next at

-- the bytes that were given so far
abbrev pub given_of : ScriptState → List ℕ
given_of script = given script.items script.next script.at

-- an item is left
abbrev pub has_more : ScriptState → Bool
has_more script = nat_lt script.next (length script.items)

-- what a read with so much room answers at this item, of which the first bytes were given before
abbrev pub item_answer : PortItem → ℕ → ℕ → Got
item_answer (items.Bytes bytes) at room = reads.Bytes (min (length bytes - at) room)
item_answer items.Empty at room = reads.Empty
item_answer items.End at room = reads.End
item_answer items.NotYet at room = reads.NotYet
item_answer items.Fault at room = reads.Failed

-- what a read answers to this item
abbrev pub scripted_read : Option PortItem → ℕ → ℕ → Got
scripted_read None at room = reads.NotYet
scripted_read (Some item) at room = item_answer item at room

-- where the rest of the item begins, if there is one
abbrev pub at_after : PortItem → ℕ → ℕ → Option ℕ
at_after (items.Bytes bytes) at room = if nat_lt room (length bytes - at) then Some (at + room) else None
at_after items.Empty at room = None
at_after items.End at room = None
at_after items.NotYet at room = None
at_after items.Fault at room = None

-- the script with the next item as it is then
abbrev pub moved : ScriptState → Option ℕ → ScriptState
moved script None = record script { next = script.next + 1; at = 0 }
moved script (Some at) = record script { at = at }

-- the script after that read
abbrev pub after_read : Option PortItem → ScriptState → ℕ → ScriptState
after_read None script room = script
after_read (Some item) script room = moved script (at_after item script.at room)

-- the bytes that an answer hands out
abbrev pub got_bytes : List ℕ → Got → List ℕ
got_bytes into (reads.Bytes n) = take n into
got_bytes into reads.Empty = []
got_bytes into reads.End = []
got_bytes into reads.NotYet = []
got_bytes into reads.Failed = []

-- an answered number of bytes fits the read
abbrev pub FitsRead : List ℕ → Got → Type 0
FitsRead into (reads.Bytes n) = (1 ≤ n) × (n ≤ length into)
FitsRead into reads.Empty = Unit {0}
FitsRead into reads.End = Unit {0}
FitsRead into reads.NotYet = Unit {0}
FitsRead into reads.Failed = Unit {0}

-- these bytes go on where the given ones end, up to where the rest begins
abbrev pub IsPart : PortItem → ℕ → List ℕ → Option ℕ → Type 0
IsPart item at bytes None = take at (item_bytes item) ++ bytes ≡ item_bytes item
IsPart item at bytes (Some after) = take at (item_bytes item) ++ bytes ≡ take after (item_bytes item)
