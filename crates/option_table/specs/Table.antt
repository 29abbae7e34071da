-- How a table of names is searched. Names are compared without regard to ASCII case.
use Rattle.std.specs.Prelude.{ℕ, Bool, false, ◌||◌, List, [], ◌∷◌, Option, Some, None, if◌then◌else◌}
use Rattle.std.specs.Borrow.{Bor}
use Rattle.std.specs.Str.{str_eq_ignore_ascii_case}
use Rattle.option_table.specs.declared.rows.OptionId.{OptionId}
use Rattle.option_table.specs.declared.rows.Group.{Group}
use Rattle.option_table.specs.declared.rows.Phase.{Phase}
use Rattle.option_table.specs.declared.rows.Form.{Form}
use Rattle.option_table.specs.declared.rows.OptionRow.{OptionRow}

-- an option's name, and what is known of the option
pub record NamedRow : Type 0 where
  pub name : List ℕ
  pub row : OptionRow

-- a row of the program's own table
abbrev pub as_named : Bor (List ℕ) × OptionId × Group × Phase × Form → NamedRow
as_named r = record { name = r.0.now; row = record { id = r.1; group = r.2; phase = r.3; form = r.4 } }

-- what is known of the first option of this name
abbrev pub found : List NamedRow → List ℕ → Option OptionRow
found [] name = None
found (known ∷ rest) name =
    if str_eq_ignore_ascii_case known.name name then Some known.row else found rest name

-- whether the name is among these
abbrev pub is_listed : List (List ℕ) → List ℕ → Bool
is_listed [] name = false
is_listed (known ∷ rest) name = str_eq_ignore_ascii_case known name || is_listed rest name
