-- the halves that the entries so far name are armed, and nothing else has changed
use Rattle.std.proofs.Common.{◌≡◌, ◌&&◌, not, length, take}
use Rattle.relay_model.specs.Readiness.{names}
use Rattle.relay_model.specs.declared.places.Half.{Half}
use Rattle.relay_model.specs.declared.places.Place.{Place}
use Rattle.slab.specs.Slab.{Slab}
use Rattle.port_table.specs.Ports.{EntrySeen}
use Rattle.desk_places.specs.Standing.{IsSound}
use Rattle.desk_places.specs.Keys.{KeyTable}
use Rattle.desk_places.specs.PlaceTables.{SameStanding, SameHold, hold_at, is_disarmed}
use Rattle.desk_places.proofs.naming.arm_named.Given as goal

abbrev pub invariant-loop-i : goal.invariant-loop-i
invariant-loop-i l = record {
  armed : (p : Place) (half : Half) → is_disarmed l.places.entries p half ≡ (is_disarmed l.initial.places.entries p half && not (names (take l.i l.ready.entries) p half));
  held : SameHold (hold_at l.initial.places.entries) (hold_at l.places.entries);
  standing : SameStanding l.initial.places.entries l.places.entries;
  sound : (made : Slab EntrySeen) (listed : KeyTable) → IsSound l.initial.places.entries made listed → IsSound l.places.entries made listed;
  len : length l.places.entries ≡ length l.initial.places.entries;
}
