use Rattle.std.proofs.Common.{ap, ◌∙◌, is_some}
use Rattle.relay_session.proofs.Lives.{heard_by}
use Rattle.relay_session.proofs.sessions.Session.hear_block.Goals as goal

pub returns-clause-act : goal.returns-clause-act
returns-clause-act c = λ k n past s st. heard_by k n past s _ c.args.self.now _ _ (c.hear_block.ensures.goes k n past s st.fields st.allowed) (λ p f. c.plan-self.ensures k n p s f)

pub returns-clause-over : goal.returns-clause-over
returns-clause-over c = λ k n past s st e. ap is_some (c.hear_block.ensures.over k n past s st.allowed e) ∙ e

pub returns-clause-ending : goal.returns-clause-ending
returns-clause-ending c = λ k n past s st e. c.hear_block.ensures.over k n past s st.allowed e
