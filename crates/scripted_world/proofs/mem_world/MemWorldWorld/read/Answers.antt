use Rattle.world_trait.specs.HoldTables.{lookup}
use Rattle.scripted_world.proofs.HeldLemmas.{looks-more, looks-some, open_held}
use Rattle.scripted_world.proofs.mem_world.MemWorldWorld.read.Goals as goal

pub invariant_of-self-in-Bytes-clause-looks : goal.invariant_of-self-in-Bytes-clause-looks
invariant_of-self-in-Bytes-clause-looks c = rw c.forget.ensures (looks-some (lookup c.args.self.now.held.entries) _ c.args.self.now.script.looked c.args.self.now.looks)

pub invariant_of-self-in-Empty-clause-looks : goal.invariant_of-self-in-Empty-clause-looks
invariant_of-self-in-Empty-clause-looks c = rw c.forget-in-Empty.ensures (looks-some (lookup c.args.self.now.held.entries) _ c.args.self.now.script.looked c.args.self.now.looks)

pub invariant_of-self-in-End-clause-looks : goal.invariant_of-self-in-End-clause-looks
invariant_of-self-in-End-clause-looks c = rw c.forget-in-End.ensures (looks-some (lookup c.args.self.now.held.entries) _ c.args.self.now.script.looked c.args.self.now.looks)

pub invariant_of-self-in-NotYet-clause-looks : goal.invariant_of-self-in-NotYet-clause-looks
invariant_of-self-in-NotYet-clause-looks c = rw c.in-Ok-look_at.ensures.looks (looks-more (lookup c.args.self.now.held.entries) _ c.args.self.now.script.looked c.args.place _ (open_held (lookup c.args.self.now.held.entries c.args.place) c.requires.open) c.args.self.now.looks)

pub invariant_of-self-in-Fault-clause-looks : goal.invariant_of-self-in-Fault-clause-looks
invariant_of-self-in-Fault-clause-looks c = rw c.forget-in-Fault.ensures (looks-some (lookup c.args.self.now.held.entries) _ c.args.self.now.script.looked c.args.self.now.looks)
