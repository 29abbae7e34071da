use Rattle.relay_session.proofs.Lives.{hears_by}
use Rattle.relay_session.proofs.sessions.Session.ready.Goals as goal

pub returns-clause-goes : goal.returns-clause-goes
returns-clause-goes c = λ k n past s until at names h.
    hears_by k n _ s _ _ (c.hear_entry.ensures.goes k past s until at names h.heeds) (λ p f. c.plan-self.ensures k n p s f)
