use Rattle.std.proofs.Common.{◌≡◌, length}
use Rattle.std.proofs.Common.{◌++◌, ◌+◌, ◌≤◌, map, filter}
use Rattle.relay_model.specs.Places.{door_of}
use Rattle.relay_model.specs.Configs.{has_own_door}
use Rattle.command_places.proofs.configs.push_own_doors.Given as goal

abbrev pub invariant-loop-places : goal.invariant-loop-places
invariant-loop-places l = (l.list ++ map door_of (filter (has_own_door l.config) l.places) ≡ l.initial.list ++ map door_of (filter (has_own_door l.config) l.initial.places)) × (length l.list + length l.places ≤ 8)

abbrev pub decreases-loop-places : goal.decreases-loop-places
decreases-loop-places l = length l.places
