use Rattle.std.proofs.Common.{refl, rules}
use Rattle.relay_model.specs.Holding.{Free, Settling, Open}
use Rattle.world_trait.specs.HoldTables.{lookup}
use Rattle.scripted_world.proofs.HeldLemmas.{looks-elsewhere, looks-opening, looks-some}
use Rattle.world_trait.proofs.TableLemmas.{free_stays}
use Rattle.scripted_world.proofs.mem_world.MemWorldWorld.open_place.Goals as goal

pub returns-in-Fails-clause-act : goal.returns-in-Fails-clause-act
returns-in-Fails-clause-act c = record {
  told = search rules;
  held = rw c.reserve-2.ensures.entries (free_stays (lookup c.args.self.now.held.entries) c.args.place c.requires);
}

pub invariant_of-self-in-Opens-clause-looks : goal.invariant_of-self-in-Opens-clause-looks
invariant_of-self-in-Opens-clause-looks c = rw c.forget_place.ensures (looks-elsewhere c.args.place Open (lookup c.reserve-2.new.self.entries) (lookup c.add.new.self.entries) c.args.self.now.script.looked c.add.ensures.held (rw c.reserve-2.ensures.entries c.args.self.now.looks))

pub invariant_of-self-in-Later-clause-looks : goal.invariant_of-self-in-Later-clause-looks
invariant_of-self-in-Later-clause-looks c = rw c.in-Ok-look_at_opening.ensures.looks (looks-opening c.args.place Settling (lookup c.reserve-2.new.self.entries) (lookup c.add-in-Later.new.self.entries) c.args.self.now.script.looked refl c.add-in-Later.ensures.held (rw c.reserve-2.ensures.entries c.args.self.now.looks))

pub invariant_of-self-in-Fails-clause-looks : goal.invariant_of-self-in-Fails-clause-looks
invariant_of-self-in-Fails-clause-looks c = rw (c.forget_place-in-Fails.ensures, c.reserve-2.ensures.entries) (looks-some (lookup c.args.self.now.held.entries) _ c.args.self.now.script.looked c.args.self.now.looks)
