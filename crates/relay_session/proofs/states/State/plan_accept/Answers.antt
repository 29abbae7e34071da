use Rattle.std.proofs.Common.{sym, ◌∙◌}
use Rattle.relay_session.proofs.Plans.{called, sleeps_for_peer}
use Rattle.relay_session.proofs.states.State.plan_accept.Goals as goal

pub returns-then-has_asked : goal.returns-then-has_asked
returns-then-has_asked c = λ k n past s f e h.
    let asked = c.has_asked.ensures k past s c.args.door c.args.place f.ground.openings_are (sym (called k n past s c.args.self.now f e) ∙ h) in
    (sleeps_for_peer k n past s c.args.self.now c.args.door c.args.place f e h (sym asked ∙ c.if-has_asked.true), e)

pub returns-else-has_asked : goal.returns-else-has_asked
returns-else-has_asked c = λ k n past s f e h.
    let asked = c.has_asked.ensures k past s c.args.door c.args.place f.ground.openings_are (sym (called k n past s c.args.self.now f e) ∙ h) in
    ((h, sym asked ∙ c.if-has_asked.false), e)
