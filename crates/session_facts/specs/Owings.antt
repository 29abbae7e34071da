-- What each direction owes of the bytes that were read, kept up with each act.
use Rattle.std.specs.Prelude.{◌≡◌, ℕ, ◌+◌, ◌-◌, ◌*◌, Bool, List, [], length, Option, None, Some, Vec}
use Rattle.std.specs.Option.{option_map_or}
use Rattle.std.specs.Ordering.{nat_cmp}
use Rattle.std.specs.BTreeMap.{get}
use Rattle.relay_model.specs.{Way, Place, Config, Act, input, options_of, is_met, got, due}
use Rattle.relay_model.specs.declared.places.Way.TheVariants.{LeftToRight, RightToLeft}
use Rattle.history_facts.specs.{Placed, placed}
use Rattle.session_facts.specs.declared.listed.ListedBytes.{ListedBytes}
use Rattle.session_facts.specs.declared.owings.Owings.{Owings}

-- the bytes that stand at a number
abbrev pub listed : ListedBytes → ℕ → List ℕ
listed table k = option_map_or (λ bytes. bytes.items) (get nat_cmp table.known k) []

-- the number of a session's direction
abbrev pub due_number : ℕ → Way → ℕ
due_number s LeftToRight = s * 2
due_number s RightToLeft = s * 2 + 1

-- of a bound on what is read, what is left of it
abbrev pub left_of : Option ℕ → ℕ → Option ℕ
left_of None count = None
left_of (Some most) count = Some (most - count)

-- whether the escape byte stands among the bytes of a place that count
abbrev pub met_at : Config → List Act → Place → Bool
met_at c past p = is_met (options_of c p).input.readbytes (options_of c p).input.escape (got past p)

-- the table has whether the input of each place is met
abbrev pub MetTold : Config → Placed Bool → List Act → Type 0
MetTold c table past = (p : Place) → placed table p ≡ met_at c past p

-- the table has what each direction owes
abbrev pub DuesTold : Config → ListedBytes → List Act → Type 0
DuesTold c table past = (s : ℕ) (w : Way) → listed table (due_number s w) ≡ due c w (got past (input c s w))

-- what is kept of owings is what the acts say
pub record OwingsTold (c : Config) (o : Owings) (past : List Act) : Type 0 where
  pub met : MetTold c o.met past
  pub due_told : DuesTold c o.due past
