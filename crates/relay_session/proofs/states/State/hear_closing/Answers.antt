use Rattle.std.proofs.Common.{refl}
use Rattle.relay_model.specs.declared.acts.Act.TheVariants as acts
use Rattle.relay_session.proofs.StepLemmas.{closed_step}
use Rattle.relay_session.proofs.states.State.hear_closing.Goals as goal

pub returns-clause-goes : goal.returns-clause-goes
returns-clause-goes c = λ k n past s f a.
    closed_step k n past s c.args.thing c.args.why c.args.self.now _ _ f a.0 a.1
    (record { clock_same = refl; closing_same = refl; idle_same = refl; sloppy_same = refl })
    (c.hear_closing.ensures.goes k past s f.ground.openings_are)
    (c.stay.ensures.untouched k past s (acts.Closed c.args.thing c.args.why) f.ground.lanes_are refl refl)
    refl refl
    (record { openings_same = refl; lanes_same = refl; clock_same = refl; moved_same = refl; faulted_same = refl; closing_same = refl; idle_same = refl; sloppy_same = refl })
    (λ why e. c.ending_after-self.ensures.ended why e)
    (λ e g q. c.ending_after-self.ensures.going k _ s e g q)
    (c.hear_closing.ensures.fewer k past s f.ground.openings_are a.0.is_held a.0.own)
    refl
