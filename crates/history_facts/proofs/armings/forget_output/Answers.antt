use Rattle.std.proofs.Common.{sym, subst, ap, ◌∙◌, ◌&&◌, not, cond, suc}
use Rattle.relay_model.specs.Places.{same_place}
use Rattle.relay_model.specs.Configs.{input, output}
use Rattle.history_facts.specs.Tables.{placed}
use Rattle.history_facts.specs.Told.{AskedBefore}
use Rattle.history_facts.proofs.Asked.{asked_less, forgets}
use Rattle.history_facts.proofs.armings.forget_output.Goals as goal

pub returns-in_ok-set : goal.returns-in_ok-set
returns-in_ok-set c = λ s w turn before h.
    let out = output c.args.config.now s w in
    let same = forgets c.args.config.now c.args.place c.input.result c.output.result c.way_from-way.result s w c.way_from-way.ensures c.input.ensures c.output.ensures (sym c.is.ensures ∙ c.if-is.true) in
    subst (λ n. AskedBefore n (suc turn) (not (same_place c.args.place (input c.args.config.now s w)) && before))
    (sym (c.in_ok-set.ensures out ∙ ap (λ b. cond b 0 (placed c.args.asked.now out)) same))
    (asked_less (same_place c.args.place (input c.args.config.now s w)) (placed c.args.asked.now out) turn before h)
