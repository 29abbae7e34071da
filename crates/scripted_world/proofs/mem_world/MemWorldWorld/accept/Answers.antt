use Rattle.std.proofs.Common.{refl, ap}
use Rattle.relay_model.specs.Holding.{Open, is_free}
use Rattle.world_trait.specs.HoldTables.{lookup}
use Rattle.scripted_world.proofs.HeldLemmas.{looks-more, looks-set, looks-some}
use Rattle.scripted_world.proofs.mem_world.MemWorldWorld.accept.Goals as goal

pub invariant_of-self-in-Comes-clause-looks : goal.invariant_of-self-in-Comes-clause-looks
invariant_of-self-in-Comes-clause-looks c = rw c.forget.ensures (looks-set c.args.place Open (lookup c.reserve-2.new.self.entries) (lookup c.add.new.self.entries) _ refl c.add.ensures.held (rw c.reserve-2.ensures.entries (looks-some (lookup c.args.self.now.held.entries) _ c.args.self.now.script.looked c.args.self.now.looks)))

pub invariant_of-self-in-NoPeer-clause-looks : goal.invariant_of-self-in-NoPeer-clause-looks
invariant_of-self-in-NoPeer-clause-looks c = rw (c.in-Ok-look_at.ensures.looks, c.reserve-2.ensures.entries) (looks-more (lookup c.args.self.now.held.entries) _ c.args.self.now.script.looked c.args.door _ (ap is_free c.requires.door) c.args.self.now.looks)

pub invariant_of-self-in-Fault-clause-looks : goal.invariant_of-self-in-Fault-clause-looks
invariant_of-self-in-Fault-clause-looks c = rw (c.forget-in-Fault.ensures, c.reserve-2.ensures.entries) (looks-some (lookup c.args.self.now.held.entries) _ c.args.self.now.script.looked c.args.self.now.looks)
