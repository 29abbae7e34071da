-- Nothing is held in a world in which nothing was done.
use Rattle.std.proofs.Common.{◌≡◌}
use Rattle.relay_model.specs.declared.places.Place.{Place}
use Rattle.relay_model.specs.Holding.{Free}
use Rattle.world_trait.specs.HoldTables.{lookup}
use Rattle.worked_rows.proofs.worlds.world_of.Given as goal

abbrev pub invariant-loop-line : goal.invariant-loop-line
invariant-loop-line l = (p : Place) → lookup l.world.held.entries p ≡ Free
