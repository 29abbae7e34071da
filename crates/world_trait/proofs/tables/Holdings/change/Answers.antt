use Rattle.relay_model.specs.Holding.{Free}
use Rattle.relay_model.specs.Places.{same_place}
use Rattle.world_trait.specs.HoldTables.{lookup, hold_of}
use Rattle.world_trait.proofs.TableLemmas.{sets_here, sets_again}
use Rattle.world_trait.proofs.tables.Holdings.change.Goals as goal

pub add-requires-clause-free : goal.add-requires-clause-free
add-requires-clause-free c = sets_here c.args.place Free (lookup c.args.self.now.entries) (lookup c.remove.new.self.entries) c.remove.ensures.held

pub returns-clause-held : goal.returns-clause-held
returns-clause-held c = λ p. sets_again (same_place c.args.place p) Free (hold_of c.args.standing) _ _ _ (c.add.ensures.held p) (c.remove.ensures.held p)
