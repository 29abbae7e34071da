use Rattle.std.proofs.Common.{rules}
use Rattle.world_trait.specs.HoldTables.{lookup}
use Rattle.world_trait.proofs.TableLemmas.{free_stays}
use Rattle.scripted_world.proofs.mem_world.MemWorldWorld.listen.Goals as goal

pub returns-in-Fails-clause-act : goal.returns-in-Fails-clause-act
returns-in-Fails-clause-act c = record {
  told = search rules;
  held = rw c.reserve-2.ensures.entries (free_stays (lookup c.args.self.now.held.entries) c.args.door c.requires);
}
