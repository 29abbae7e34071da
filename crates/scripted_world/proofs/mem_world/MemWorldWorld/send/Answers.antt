use Rattle.std.proofs.Common.{ap}
use Rattle.relay_model.specs.Holding.{is_free}
use Rattle.world_trait.specs.HoldTables.{lookup}
use Rattle.scripted_world.proofs.HeldLemmas.{looks-more, looks-some}
use Rattle.scripted_world.proofs.mem_world.MemWorldWorld.send.Goals as goal

pub invariant_of-self-in-Upto-clause-looks : goal.invariant_of-self-in-Upto-clause-looks
invariant_of-self-in-Upto-clause-looks c = rw c.forget.ensures (looks-some (lookup c.args.self.now.held.entries) _ c.args.self.now.script.looked c.args.self.now.looks)

pub invariant_of-self-in-NotYet-clause-looks : goal.invariant_of-self-in-NotYet-clause-looks
invariant_of-self-in-NotYet-clause-looks c = rw c.in-Ok-look_at.ensures.looks (looks-more (lookup c.args.self.now.held.entries) _ c.args.self.now.script.looked c.args.place _ (ap is_free c.requires.open) c.args.self.now.looks)

pub invariant_of-self-in-Fault-clause-looks : goal.invariant_of-self-in-Fault-clause-looks
invariant_of-self-in-Fault-clause-looks c = rw c.forget-in-Fault.ensures (looks-some (lookup c.args.self.now.held.entries) _ c.args.self.now.script.looked c.args.self.now.looks)
