use Rattle.scripted_world.proofs.LineLemmas.{used_up-at, used_up-none}
use Rattle.scripted_world.proofs.lines.PlacedItems.use_up.Goals as goal

pub returns-in-None : goal.returns-in-None
returns-in-None g c = rw (← c.self.view_is) (used_up-none c.self.inside.entries.items c.args.place (rw c.as_slice.ensures.value at c.in-None.ensures.is))

pub returns-in-Some : goal.returns-in-Some
returns-in-Some g c = rw (c.remove.ensures.items, ← c.self.view_is) (used_up-at c.self.inside.entries.items c.args.place c.in-Some.index (rw c.as_slice.ensures.value at c.in-Some.ensures.is))
