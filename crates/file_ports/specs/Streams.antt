-- What contracts see of a file from its opening on.
use Rattle.std.specs.Prelude.{Bool, true, false}
use Rattle.file_ports.specs.Halves.{HalvesState, waiting_halves}
use Rattle.file_ports.specs.declared.stream.FileStream.{FileStream}
use Rattle.file_ports.specs.declared.stream.FileStream.TheVariants as streams
use Rattle.file_ports.specs.declared.waiting.Progress.{Progress}
use Rattle.file_ports.specs.declared.waiting.Progress.TheVariants as progress

-- its halves; those of a pipe that waits are the ones that it will have
abbrev pub halves_of : FileStream → HalvesState
halves_of (streams.Open halves) = halves
halves_of (streams.Waiting pipe) = waiting_halves pipe

-- the file is open
abbrev pub is_open : FileStream → Bool
is_open (streams.Open halves) = true
is_open (streams.Waiting pipe) = false

-- a fact of the halves, once they are there
abbrev pub OnOpened : Progress → (HalvesState → Type 0) → Type 0
OnOpened progress.NotYet P = Unit {0}
OnOpened (progress.Open halves) P = P halves
OnOpened progress.Refused P = Unit {0}
