use Rattle.std.proofs.Common.{ap, ◌∙◌}
use Rattle.relay_model.specs.Choices.{earlier, later}
use Rattle.relay_model.specs.Moments.{closing_moment, idle_moment}
use Rattle.relay_session.proofs.Plans.{timer_of}
use Rattle.relay_session.proofs.states.State.timer.Goals as goal

pub returns : goal.returns
returns c = λ k past s g runs.
    let closing = c.ahead.ensures.stands (closing_moment k past s) (c.closing_moment.ensures k past s g) ∙ ap (λ x. later x (closing_moment k past s)) g.clock_is in
    let idle = c.ahead-2.ensures.stands (idle_moment k past s) (c.idle_moment.ensures k past s g) ∙ ap (λ x. later x (idle_moment k past s)) g.clock_is in
    c.earlier.ensures ∙ ((λ i. earlier (closing i) (idle i)) ∙ timer_of k past s runs)
