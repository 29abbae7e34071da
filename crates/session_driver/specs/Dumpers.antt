-- The text that a dumper made last, and how many bytes it has counted.
use Rattle.std.specs.Prelude.{◌≡◌, ◌≢◌, ℕ, List, length, None, ◌+◌, ◌-◌, ◌^◌, min}
use Rattle.relay_model.specs.{Side, Act, Config, input, way_from, got, owed}
use Rattle.relay_model.specs.declared.places.Side.TheVariants.{Left, Right}
use Rattle.relay_model.specs.declared.commands.Dump.TheVariants as dumps
use Rattle.session_driver.specs.declared.dumpers.Dumper.{Dumper}

-- the text that it made last
abbrev pub text_of : Dumper → List ℕ
text_of dumper = dumper.text.items

-- how many bytes it counted at the place of this side
abbrev pub counted_at : Dumper → Side → ℕ
counted_at dumper Left = dumper.left
counted_at dumper Right = dumper.right

-- a count of so many bytes more, which stays at its last value
abbrev pub raised : ℕ → ℕ → ℕ
raised count n = min (count + n) (2 ^ 64 - 1)

-- what is counted after so many bytes more at the place of the one side
abbrev pub counted_after : Side → ℕ → Dumper → Side → ℕ
counted_after Left n dumper Left = raised dumper.left n
counted_after Left n dumper Right = dumper.right
counted_after Right n dumper Left = dumper.left
counted_after Right n dumper Right = raised dumper.right n

-- the dumper counted so many bytes more at the place of this side
abbrev pub Counts : Side → ℕ → Dumper → Dumper → Type 0
Counts at n old new = (side : Side) → counted_at new side ≡ counted_after at n old side

-- where the command dumps, the dumper has counted what was read at the input of the session on each side
abbrev pub Counted : Config → List Act → ℕ → Dumper → Type 0
Counted c past s dumper =
    c.dump ≢ dumps.Off → (side : Side) → counted_at dumper side ≡ min (length (got past (input c s (way_from side)))) (2 ^ 64 - 1)

-- no dump is owed after these acts, and what the session read is counted
pub record IsDumpSettled (c : Config) (past : List Act) (s : ℕ) (dumper : Dumper) : Type 0 where
  pub unowed : owed c past ≡ None
  pub counted : Counted c past s dumper
