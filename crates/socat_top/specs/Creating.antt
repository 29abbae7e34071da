-- A file that was made.
use Rattle.std.specs.Prelude.{Option, None, Some}

-- a file was made, and this is true of it
abbrev pub Created : {F : Type 0} → (F → Type 0) → Option F → Type 0
Created IsIt None = ⊥
Created IsIt (Some file) = IsIt file
