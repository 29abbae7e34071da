use Rattle.relay_session.proofs.Plans.{gives_up, goes_on}
use Rattle.relay_session.proofs.states.State.cause.Goals as goal

pub returns-in-Some : goal.returns-in-Some
returns-in-Some c = λ k past s g q. gives_up k past s _ c.in-Some.why q (c.why_given_up.ensures k past s g.openings_are) c.in-Some.is

pub returns-in-None : goal.returns-in-None
returns-in-None c = λ k past s g q. goes_on k past s _ _ q (c.why_given_up.ensures k past s g.openings_are) c.in-None.is (c.cause_while_tried.ensures k past s g)
