use Rattle.std.proofs.Common.{◌∷◌, sym, ◌∙◌}
use Rattle.std.proofs.lemmas.Bool.{false≢true, false_from_ne_true}
use Rattle.relay_model.specs.declared.acts.Act.TheVariants as acts
use Rattle.relay_session.proofs.Births.{birth_may, birth_meets, begun_at}
use Rattle.relay_session.proofs.Lives.{hears_by}
use Rattle.relay_session.proofs.sessions.PendingSession.accepted.Goals as goal

pub returns-clause-may : goal.returns-clause-may
returns-clause-may c = λ k n past s begins owes. birth_may k n past s c.args.peer begins owes

pub returns-clause-met : goal.returns-clause-met
returns-clause-met c = λ k n past s begins. birth_meets k n past s c.args.peer begins

pub returns-clause-hears : goal.returns-clause-hears
returns-clause-hears c = λ k n past s pending_session begins clock.
    begun_at k n past s c.args.self.home c.args.peer _ pending_session.home_is
    (hears_by k n (acts.Accepted c.args.self.home c.args.peer ∷ past) s _ _ (c.begin.ensures.begun k n past s pending_session.is_new begins pending_session.home_is clock) (λ p f. c.plan-wish.ensures k n p s f))

pub returns-clause-unasked : goal.returns-clause-unasked
returns-clause-unasked c = λ k s p pending_session. false_from_ne_true _ (λ e. false≢true (sym (pending_session.is_new.unasked p) ∙ c.begin.ensures.asked p e))
