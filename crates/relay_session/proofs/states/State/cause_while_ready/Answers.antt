use Rattle.std.proofs.Common.{sym, ap, ◌∙◌}
use Rattle.relay_model.specs.Moments.{closing_moment, idle_moment, reached}
use Rattle.relay_session.proofs.Plans.{by_closing, by_idle, by_none}
use Rattle.relay_session.proofs.states.State.cause_while_ready.Goals as goal

pub returns-then-is_reached : goal.returns-then-is_reached
returns-then-is_reached c = λ k past s g.
    by_closing _ _ _ (sym (c.have_passed.ensures k past s g.lanes_are) ∙ c.if-have_passed.false)
    (ap (reached (closing_moment k past s)) (sym g.clock_is) ∙ (sym (c.is_reached.ensures (closing_moment k past s) (c.closing_moment.ensures k past s g)) ∙ c.if-is_reached.true))

pub returns-then-is_reached-2 : goal.returns-then-is_reached-2
returns-then-is_reached-2 c = λ k past s g.
    by_idle _ _ _ (sym (c.have_passed.ensures k past s g.lanes_are) ∙ c.if-have_passed.false)
    (ap (reached (closing_moment k past s)) (sym g.clock_is) ∙ (sym (c.is_reached.ensures (closing_moment k past s) (c.closing_moment.ensures k past s g)) ∙ c.if-is_reached.false))
    (ap (reached (idle_moment k past s)) (sym g.clock_is) ∙ (sym (c.is_reached-else-is_reached.ensures (idle_moment k past s) (c.idle_moment.ensures k past s g)) ∙ c.if-is_reached-2.true))

pub returns-else-is_reached-2 : goal.returns-else-is_reached-2
returns-else-is_reached-2 c = λ k past s g.
    by_none _ _ _ (sym (c.have_passed.ensures k past s g.lanes_are) ∙ c.if-have_passed.false)
    (ap (reached (closing_moment k past s)) (sym g.clock_is) ∙ (sym (c.is_reached.ensures (closing_moment k past s) (c.closing_moment.ensures k past s g)) ∙ c.if-is_reached.false))
    (ap (reached (idle_moment k past s)) (sym g.clock_is) ∙ (sym (c.is_reached-else-is_reached.ensures (idle_moment k past s) (c.idle_moment.ensures k past s g)) ∙ c.if-is_reached-2.false))
