use Rattle.relay_model.specs.Holding.{Free}
use Rattle.world_trait.specs.HoldTables.{lookup}
use Rattle.scripted_world.proofs.HeldLemmas.{looks-elsewhere}
use Rattle.scripted_world.proofs.mem_world.MemWorldWorld.close.Goals as goal

pub invariant_of-self-clause-looks : goal.invariant_of-self-clause-looks
invariant_of-self-clause-looks c = rw c.forget_place.ensures (looks-elsewhere c.args.place Free (lookup c.args.self.now.held.entries) (lookup c.remove.new.self.entries) c.args.self.now.script.looked c.remove.ensures.held c.args.self.now.looks)
