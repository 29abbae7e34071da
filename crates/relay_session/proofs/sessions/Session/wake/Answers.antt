use Rattle.relay_session.proofs.Lives.{asleep, hears_by}
use Rattle.relay_session.proofs.Plans.{quiet_while}
use Rattle.relay_session.proofs.sessions.Session.wake.Goals as goal

pub returns-clause-woken : goal.returns-clause-woken
returns-clause-woken c = λ k n past s until st w.
    let none = asleep k n past s c.args.self.now.state c.args.self.now.wish until st.allowed w in
    hears_by k n _ s _ _ (c.wake.ensures.goes k past s until st.fields.ground (quiet_while k n past s c.args.self.now.state.ending st.fields.ending_is none).0) (λ p f. c.plan-self.ensures k n p s f)
