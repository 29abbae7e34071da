use Rattle.relay_session.proofs.states.State.plan.Goals as goal

pub returns-in-Some : goal.returns-in-Some
returns-in-Some c = λ k n past s f. c.plan_end.ensures k n past s f c.in-Some.is

pub returns-in-None : goal.returns-in-None
returns-in-None c = λ k n past s f. c.plan_course.ensures k n past s f c.in-None.is
