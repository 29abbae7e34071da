use Rattle.std.proofs.Common.{cond, ap, ◌∙◌, ◌&&◌}
use Rattle.relay_model.specs.Places.{same_place, same_half}
use Rattle.history_facts.proofs.Named.{one_more_set}
use Rattle.history_facts.proofs.naming.name_all.Goals as goal

pub loop-i-preserved : goal.loop-i-preserved
loop-i-preserved g c = λ p.
    c.in_ok-name_one.ensures p
    ∙ ap (λ y. cond (same_place c.get.result.place p && same_half c.get.result.half c.args.half) c.args.answer y) (c.loop-i.invariant p)
    ∙ one_more_set c.args.ready.now.entries c.loop-i.i c.get.result p c.args.half c.args.answer _ c.get.ensures
