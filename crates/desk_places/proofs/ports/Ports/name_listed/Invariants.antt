-- the halves at the keys so far are named where their port hints so, and all that was named before
use Rattle.std.proofs.Common.{◌≡◌, ◌<◌, ℕ, slice_get, Some}
use Rattle.desk_places.specs.Naming.{NamesMore, told_by}
use Rattle.desk_places.proofs.TurnLemmas.{KeyPlaced}
use Rattle.desk_places.proofs.ports.Ports.name_listed.Given as goal

abbrev pub invariant-loop-i : goal.invariant-loop-i
invariant-loop-i g l = record {
  list : NamesMore l.places.entries l.initial.self l.self l.initial.ready l.ready;
  named : (j key : ℕ) → j < l.i → slice_get l.initial.self.listed.keys j ≡ Some key → KeyPlaced (told_by l.initial.self.table) l.places.entries l.initial.self.table.made key l.ready.entries;
}
