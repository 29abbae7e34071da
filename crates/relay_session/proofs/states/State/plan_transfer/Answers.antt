use Rattle.std.proofs.Common.{sym, subst, ◌∙◌}
use Rattle.relay_session.specs.Lanes.{LanesWish}
use Rattle.relay_session.proofs.Plans.{sleeps_unready, sleeps_running, wish_allowed, runs_of}
use Rattle.relay_session.proofs.states.State.plan_transfer.Goals as goal

pub returns-then-not-is_ready : goal.returns-then-not-is_ready
returns-then-not-is_ready c = λ k n past s f e h.
    (sleeps_unready k n past s c.args.self.now f e h (sym (c.is_ready.ensures k past s f.ground.openings_are) ∙ c.if-not-is_ready.true), e)

pub returns-in-Some : goal.returns-in-Some
returns-in-Some c = λ k n past s f e h.
    let runs = runs_of k n past s c.args.self.now f e (sym (c.is_ready.ensures k past s f.ground.openings_are) ∙ c.if-not-is_ready.false) in
    wish_allowed k n past s c.args.self.now c.in-Some.wish (subst (LanesWish k past s c.args.self.now.lanes) c.in-Some.is (c.wish.ensures k past s f.ground.lanes_are f.ground.clock_is runs f.ground.fit)) e

pub returns-in-None : goal.returns-in-None
returns-in-None c = λ k n past s f e h.
    let runs = runs_of k n past s c.args.self.now f e (sym (c.is_ready.ensures k past s f.ground.openings_are) ∙ c.if-not-is_ready.false) in
    (sleeps_running k n past s c.args.self.now _ f e h (subst (LanesWish k past s c.args.self.now.lanes) c.in-None.is (c.wish.ensures k past s f.ground.lanes_are f.ground.clock_is runs f.ground.fit)) (c.until.ensures k past s f.ground runs h), e)
