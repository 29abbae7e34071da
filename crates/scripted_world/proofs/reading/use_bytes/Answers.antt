use Rattle.scripted_world.proofs.LineLemmas.{bytes_left-cut, bytes_left-none}
use Rattle.scripted_world.proofs.reading.use_bytes.Goals as goal

pub returns-in-None : goal.returns-in-None
returns-in-None c = rw (← c.lines.view_is) (bytes_left-none c.lines.inside.entries.items c.args.place c.args.count (rw c.as_slice.ensures.value at c.in-None.ensures.is))

pub returns-in-Some : goal.returns-in-Some
returns-in-Some c = rw (← c.lines.view_is) (bytes_left-cut c.lines.inside.entries.items c.cut.new.entries.items c.args.place c.args.count c.in-Some.index (rw c.as_slice.ensures.value at c.in-Some.ensures.is) (rw c.as_slice.ensures.value at c.in-Some.ensures.within) c.cut.ensures.kept c.cut.ensures.gone)
