use Rattle.std.proofs.Common.{◌≡◌, ◌++◌}
use Rattle.relay_model.specs.declared.places.Place.{Place}
use Rattle.world_trait.specs.HoldTables.{lookup}
use Rattle.world_trait.specs.Recordings.{told_kept}
use Rattle.socat_top.specs.Scripts.{session_writes}
use Rattle.socat_top.proofs.load_worlds.add_writes.Given as goal

abbrev pub invariant-loop : goal.invariant-loop
invariant-loop l = record {
  script : l.world.script ≡ record l.fn.world.script { writes = l.fn.world.script.writes ++ session_writes l.session l.counter };
  told : told_kept l.world.kept ≡ told_kept l.fn.world.kept;
  held : (p : Place) → lookup l.world.held.entries p ≡ lookup l.fn.world.held.entries p;
}
