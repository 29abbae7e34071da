use Rattle.std.proofs.Common.{ap, ◌∙◌, is_some}
use Rattle.relay_session.proofs.Lives.{heard_by, stands_by}
use Rattle.relay_session.proofs.sessions.Session.hear.Goals as goal

pub returns-clause-act : goal.returns-clause-act
returns-clause-act c = λ k n past s st. heard_by k n past s _ c.args.self.now _ _ (c.hear.ensures.goes k n past s st.fields st.allowed) (λ p f. c.plan-self.ensures k n p s f)

pub returns-clause-childless : goal.returns-clause-childless
returns-clause-childless c = λ k n past s st e.
    let h = c.hear.ensures.childless k n past s st.fields st.allowed e in
    (stands_by k n past s _ _ h.0 (λ p f. c.plan-self.ensures k n p s f), h.1)

pub returns-clause-over : goal.returns-clause-over
returns-clause-over c = λ k n past s st e. ap is_some (c.hear.ensures.over k n past s st.allowed e) ∙ e

pub returns-clause-ending : goal.returns-clause-ending
returns-clause-ending c = λ k n past s st e. c.hear.ensures.over k n past s st.allowed e
