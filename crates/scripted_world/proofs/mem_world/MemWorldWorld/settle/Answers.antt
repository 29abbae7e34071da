use Rattle.std.proofs.Common.{refl}
use Rattle.relay_model.specs.Holding.{Free, Settling, Open}
use Rattle.world_trait.specs.HoldTables.{lookup}
use Rattle.scripted_world.proofs.HeldLemmas.{looks-elsewhere, looks-opening}
use Rattle.scripted_world.proofs.mem_world.MemWorldWorld.settle.Goals as goal

pub invariant_of-self-in-Opens-clause-looks : goal.invariant_of-self-in-Opens-clause-looks
invariant_of-self-in-Opens-clause-looks c = rw c.forget_place.ensures (looks-elsewhere c.args.place Open (lookup c.args.self.now.held.entries) (lookup c.change.new.self.entries) c.args.self.now.script.looked c.change.ensures.held c.args.self.now.looks)

pub invariant_of-self-in-Later-clause-looks : goal.invariant_of-self-in-Later-clause-looks
invariant_of-self-in-Later-clause-looks c = rw c.in-Ok-look_at_opening.ensures.looks (looks-opening c.args.place Settling (lookup c.args.self.now.held.entries) (lookup c.change-in-Later.new.self.entries) c.args.self.now.script.looked refl c.change-in-Later.ensures.held c.args.self.now.looks)

pub invariant_of-self-in-Fails-clause-looks : goal.invariant_of-self-in-Fails-clause-looks
invariant_of-self-in-Fails-clause-looks c = rw c.forget_place-in-Fails.ensures (looks-elsewhere c.args.place Free (lookup c.args.self.now.held.entries) (lookup c.remove.new.self.entries) c.args.self.now.script.looked c.remove.ensures.held c.args.self.now.looks)
