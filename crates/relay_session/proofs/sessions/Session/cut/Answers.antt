use Rattle.std.proofs.Common.{inl, inr}
use Rattle.relay_session.proofs.Lives.{stands_by, none_of}
use Rattle.relay_session.proofs.Plans.{quiet_while}
use Rattle.relay_session.proofs.sessions.Session.cut.Goals as goal

pub returns-clause-stop : goal.returns-clause-stop
returns-clause-stop c = λ k n past s until at names h e.
    stands_by k n _ s _ _ (c.cut.ensures.stop k n past s until at names h.heeds.ground h.heeds.quiet e) (λ p f. c.plan-self.ensures k n p s f)

pub returns-clause-limit : goal.returns-clause-limit
returns-clause-limit c = λ k n past s st live t r e.
    stands_by k n past s _ _ (c.cut.ensures.early k n past s st.fields.ground (inr (inr (e, t, r)))) (λ p f. c.plan-self.ensures k n p s f)

pub returns-clause-memory : goal.returns-clause-memory
returns-clause-memory c = λ k n past s st live e.
    let none = none_of c.args.self.now.state.ending live in
    stands_by k n past s _ _ (c.cut.ensures.early k n past s st.fields.ground (inr (inl (e, (quiet_while k n past s c.args.self.now.state.ending st.fields.ending_is none).0.unclosed)))) (λ p f. c.plan-self.ensures k n p s f)

pub returns-clause-early : goal.returns-clause-early
returns-clause-early c = λ k n past s g ends. stands_by k n past s _ _ (c.cut.ensures.early k n past s g ends) (λ p f. c.plan-self.ensures k n p s f)
