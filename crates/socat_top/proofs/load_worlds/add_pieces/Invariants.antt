use Rattle.std.proofs.Common.{◌≡◌, ◌*◌, ◌++◌}
use Rattle.relay_model.specs.declared.places.Place.{Place}
use Rattle.world_trait.specs.HoldTables.{lookup}
use Rattle.world_trait.specs.Recordings.{told_kept}
use Rattle.socat_top.specs.Scripts.{pieces}
use Rattle.socat_top.specs.Stream.{state_after}
use Rattle.socat_top.proofs.load_worlds.add_pieces.Given as goal

abbrev pub invariant-loop-moment : goal.invariant-loop-moment
invariant-loop-moment l = record {
  script : l.world.script ≡ record l.fn.world.script { reads = l.fn.world.script.reads ++ pieces l.session l.moment l.fn.generator.state };
  state : l.generator.state ≡ state_after (l.moment * 512) l.fn.generator.state;
  told : told_kept l.world.kept ≡ told_kept l.fn.world.kept;
  held : (p : Place) → lookup l.world.held.entries p ≡ lookup l.fn.world.held.entries p;
}
