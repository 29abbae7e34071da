-- the halves of the entries so far are named, and no more than one for each
use Rattle.std.proofs.Common.{◌≡◌, ◌<◌, ◌≤◌, ℕ, Option, length, slice_get, Some}
use Rattle.relay_model.specs.declared.places.Half.{Half}
use Rattle.port_trait.specs.declared.answers.Hint.{Hint}
use Rattle.port_table.specs.PortTables.{PortId}
use Rattle.world_trait.specs.Answers.{NamesHeld}
use Rattle.desk_places.specs.PlaceTables.{hold_at}
use Rattle.desk_places.specs.Naming.{KeyNamed, NamesOnly}
use Rattle.desk_places.proofs.naming.name_keyed.Given as goal

abbrev pub invariant-loop-i : goal.invariant-loop-i
invariant-loop-i g l = record {
  room : l.ready.room ≡ l.initial.ready.room;
  held : NamesHeld (hold_at l.places.entries) l.ready.entries;
  most : length l.ready.entries ≤ l.i;
  named : (j : ℕ) (e : ℕ × Half) → j < l.i → slice_get l.keys.entries j ≡ Some e → KeyNamed e l.places.entries l.ready.entries;
  only : (told : PortId → Option Hint) → NamesOnly l.keys.entries told l.places.entries l.ready.entries;
}
