-- What a table of held things holds, and how a place stands in it.
use Rattle.std.specs.Prelude.{◌≡◌, ℕ, List, [], ◌∷◌, Option, None, Some, if◌then◌else◌}
use Rattle.relay_model.specs.{Place, same_place}
use Rattle.relay_model.specs.Holding as holding
use Rattle.world_trait.specs.declared.tables.Standing.{Standing}
use Rattle.world_trait.specs.declared.tables.Standing.TheVariants as standings
use Rattle.world_trait.specs.declared.tables.Held.{Held}

-- the entries of a table, and how many more it has room for
pub record HoldTable : Type 0 where
  pub entries : List Held
  pub spare : ℕ

-- how a place stands, by its entry
abbrev pub hold_of : Standing → holding.Hold
hold_of standings.Settling = holding.Settling
hold_of standings.Open = holding.Open
hold_of standings.ShutDown = holding.ShutDown

-- how a place stands by these entries
abbrev pub lookup : List Held → Place → holding.Hold
lookup [] p = holding.Free
lookup (e ∷ entries) p = if same_place e.place p then hold_of e.standing else lookup entries p

-- how a place stands that is found in a table, or isn't
abbrev pub hold_found : Option Standing → holding.Hold
hold_found None = holding.Free
hold_found (Some standing) = hold_of standing

-- the place stands so, and every other place as before
abbrev pub SetsHold : Place → holding.Hold → (Place → holding.Hold) → (Place → holding.Hold) → Type 0
SetsHold place hold before after = (p : Place) → after p ≡ (if same_place place p then hold else before p)
