use Rattle.world_trait.specs.HoldTables.{lookup}
use Rattle.scripted_world.proofs.HeldLemmas.{looks-some, names-turn}
use Rattle.scripted_world.proofs.mem_world.MemWorldWorld.wait.Goals as goal

pub invariant_of-self-then-stop-clause-looks : goal.invariant_of-self-then-stop-clause-looks
invariant_of-self-then-stop-clause-looks c = rw c.forget_named.ensures (looks-some (lookup c.args.self.now.held.entries) _ c.args.self.now.script.looked c.args.self.now.looks)

pub invariant_of-self-else-stop-clause-looks : goal.invariant_of-self-else-stop-clause-looks
invariant_of-self-else-stop-clause-looks c = rw c.forget_named.ensures (looks-some (lookup c.args.self.now.held.entries) _ c.args.self.now.script.looked c.args.self.now.looks)

pub returns-then-stop-clause-named : goal.returns-then-stop-clause-named
returns-then-stop-clause-named c = rw c.name_ready.ensures.named (names-turn (lookup c.args.self.now.held.entries) c.args.self.now.script c.moment-at.result 256 c.args.self.now.looks)

pub returns-else-stop-clause-named : goal.returns-else-stop-clause-named
returns-else-stop-clause-named c = rw c.name_ready.ensures.named (names-turn (lookup c.args.self.now.held.entries) c.args.self.now.script c.moment-at.result 256 c.args.self.now.looks)
