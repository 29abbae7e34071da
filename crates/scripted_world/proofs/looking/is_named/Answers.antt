use Rattle.std.proofs.Common.{sym, ◌∙◌}
use Rattle.scripted_world.proofs.LookLemmas.{named_here, named_later}
use Rattle.scripted_world.proofs.looking.is_named.Goals as goal

pub returns-then-is_same : goal.returns-then-is_same
returns-then-is_same c = named_here c.args.ready.now.entries c.loop-i.i c.get.result c.args.entry.place c.args.entry.half _ c.get.ensures (sym c.is_same.ensures ∙ c.if-is_same.true) c.loop-i.invariant

pub loop-i-preserved : goal.loop-i-preserved
loop-i-preserved c = named_later c.args.ready.now.entries c.loop-i.i c.get.result c.args.entry.place c.args.entry.half _ c.get.ensures (sym c.is_same.ensures ∙ c.if-is_same.false) c.loop-i.invariant
