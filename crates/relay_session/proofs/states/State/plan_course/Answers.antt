use Rattle.std.proofs.Common.{sym, ◌∙◌}
use Rattle.relay_session.proofs.Plans.{called, refused, served, sleeps_for_try}
use Rattle.relay_session.proofs.states.State.plan_course.Goals as goal

pub returns-in-Open : goal.returns-in-Open
returns-in-Open c = λ k n past s f e.
    let call_is = called k n past s c.args.self.now f e ∙ (sym (c.call.ensures k past s f.ground.openings_are f.ground.clock_is) ∙ c.in-Open.is) in
    (call_is, e)

pub returns-in-Settle : goal.returns-in-Settle
returns-in-Settle c = λ k n past s f e.
    let call_is = called k n past s c.args.self.now f e ∙ (sym (c.call.ensures k past s f.ground.openings_are f.ground.clock_is) ∙ c.in-Settle.is) in
    (call_is, e)

pub returns-in-Listen : goal.returns-in-Listen
returns-in-Listen c = λ k n past s f e.
    let call_is = called k n past s c.args.self.now f e ∙ (sym (c.call.ensures k past s f.ground.openings_are f.ground.clock_is) ∙ c.in-Listen.is) in
    (call_is, e)

pub returns-in-Refuse : goal.returns-in-Refuse
returns-in-Refuse c = λ k n past s f e.
    refused k n past s c.args.self.now c.in-Refuse.place f e (called k n past s c.args.self.now f e ∙ (sym (c.call.ensures k past s f.ground.openings_are f.ground.clock_is) ∙ c.in-Refuse.is))

pub returns-in-Serve : goal.returns-in-Serve
returns-in-Serve c = λ k n past s f e.
    served k n past s c.args.self.now c.in-Serve.door f e (called k n past s c.args.self.now f e ∙ (sym (c.call.ensures k past s f.ground.openings_are f.ground.clock_is) ∙ c.in-Serve.is))

pub returns-in-Accept : goal.returns-in-Accept
returns-in-Accept c = λ k n past s f e. c.plan_accept.ensures k n past s f e (called k n past s c.args.self.now f e ∙ (sym (c.call.ensures k past s f.ground.openings_are f.ground.clock_is) ∙ c.in-Accept.is))

pub returns-in-TryAt : goal.returns-in-TryAt
returns-in-TryAt c = λ k n past s f e.
    (sleeps_for_try k n past s c.args.self.now c.in-TryAt.moment _ f e (called k n past s c.args.self.now f e ∙ (sym (c.call.ensures k past s f.ground.openings_are f.ground.clock_is) ∙ c.in-TryAt.is)) c.ahead.ensures.plain, e)

pub returns-in-Nothing : goal.returns-in-Nothing
returns-in-Nothing c = λ k n past s f e. c.plan_transfer.ensures k n past s f e (called k n past s c.args.self.now f e ∙ (sym (c.call.ensures k past s f.ground.openings_are f.ground.clock_is) ∙ c.in-Nothing.is))
