use Rattle.std.proofs.Common.{sym, subst, ◌||◌, ◌∙◌, ap, cond}
use Rattle.relay_model.specs.Places.{same_place}
use Rattle.history_facts.specs.Tables.{placed}
use Rattle.history_facts.specs.Told.{AskedBefore}
use Rattle.history_facts.proofs.Asked.{asked_more}
use Rattle.history_facts.proofs.armings.ask.Goals as goal

pub returns : goal.returns
returns c = λ p before next e h.
    subst (λ n. AskedBefore n next (same_place c.args.place p || before))
    (sym (c.in_ok-set.ensures p ∙ ap (λ t. cond (same_place c.args.place p) t (placed c.args.asked.now p)) e))
    (asked_more (same_place c.args.place p) (placed c.args.asked.now p) next before h)
