use Rattle.std.proofs.Common.{◌≡◌, [], Some}
use Rattle.relay_model.specs.declared.places.Place.{Place}
use Rattle.relay_model.specs.Holding.{Free}
use Rattle.world_trait.specs.HoldTables.{lookup}
use Rattle.world_trait.specs.Recordings.{told_kept}
use Rattle.socat_top.specs.Scripts.{script_of, session_state}
use Rattle.socat_top.proofs.load_worlds.load_world.Given as goal

abbrev pub invariant-loop-session : goal.invariant-loop-session
invariant-loop-session l = record {
  script : l.world.script ≡ script_of l.number l.session;
  state : l.generator.state ≡ session_state l.number l.session;
  told : told_kept l.world.kept ≡ Some (record { acts = []; asked = [] });
  held : (p : Place) → lookup l.world.held.entries p ≡ Free;
}
