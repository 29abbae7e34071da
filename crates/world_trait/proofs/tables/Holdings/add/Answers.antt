use Rattle.world_trait.proofs.TableLemmas.{lookup-add}
use Rattle.world_trait.proofs.tables.Holdings.add.Goals as goal

pub returns-clause-held : goal.returns-clause-held
returns-clause-held c = λ p. rw (c.push_reserved.ensures.items, ← c.self.view_is) (lookup-add c.self.inside.entries.items c.args.place c.args.standing (rw (← c.self.view_is) at c.requires.free) p)
