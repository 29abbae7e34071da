-- the halves of the places so far are named where their port hints so, and all that was named before
use Rattle.std.proofs.Common.{◌≡◌, ◌<◌, ℕ, slice_get, Some}
use Rattle.relay_model.specs.declared.places.Place.{Place}
use Rattle.desk_places.specs.Naming.{NamesMore, PlaceNamed, told_by}
use Rattle.desk_places.proofs.ports.Ports.name_standard.Given as goal

abbrev pub invariant-loop-i : goal.invariant-loop-i
invariant-loop-i g l = record {
  list : NamesMore l.places.entries l.initial.self l.self l.initial.ready l.ready;
  named : (j : ℕ) (p : Place) → j < l.i → slice_get l.listed j ≡ Some p → PlaceNamed (told_by l.initial.self.table) l.places.entries p l.ready.entries;
}
