use Rattle.world_trait.proofs.TableLemmas.{lookup-find}
use Rattle.world_trait.proofs.tables.Holdings.standing_at.Goals as goal

pub returns : goal.returns
returns c = rw (c.standing_in.ensures, c.as_slice.ensures.value, ← c.self.view_is) (lookup-find c.self.inside.entries.items c.args.place)
