-- What the lines on one place tell: an address, or a half of a dual one.
use Rattle.std.specs.Prelude.{◌≡◌, ℕ, Bool, true, false, List, ◌++◌}
use Rattle.relay_model.specs.{Side, Target, newline}
use Rattle.relay_model.specs.declared.places.Side.TheVariants.{Left, Right}
use Rattle.place_report.specs.Shown.{said}
use Rattle.place_report.specs.Naming.{Names, parameters}

-- how the lines on a side begin
abbrev pub title_of : Side → List ℕ
title_of Left = said "first address"
title_of Right = said "second address"

-- whether bytes are read there, and whether they are written, in words
abbrev pub use_words : Bool → Bool → List ℕ
use_words true true = said "read and written"
use_words true false = said "read alone"
use_words false true = said "written alone"
use_words false false = said "none; no bytes pass here"

-- the line on that
abbrev pub use_line : Bool → Bool → List ℕ
use_line read written = said "  use: " ++ (use_words read written ++ newline)

-- one place: its title, its kind with each parameter, its use, lines on its options, and this last line
pub record IsTold (title : List ℕ) (target : Target) (used : List ℕ) (last : List ℕ) (text : List ℕ) : Type 0 where
  pub kind : List ℕ
  pub options : List ℕ
  pub told : text ≡ title ++ kind ++ newline ++ used ++ options ++ last
  pub named : Names (parameters target) kind
