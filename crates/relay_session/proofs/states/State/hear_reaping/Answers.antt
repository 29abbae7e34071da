use Rattle.std.proofs.Common.{refl}
use Rattle.relay_model.specs.declared.acts.Act.TheVariants as acts
use Rattle.relay_session.proofs.StepLemmas.{reaped_step}
use Rattle.relay_session.proofs.states.State.hear_reaping.Goals as goal

pub returns-clause-goes : goal.returns-clause-goes
returns-clause-goes c = λ k n past s end f a.
    reaped_step k n past s c.args.place end c.args.self.now _ f (λ o. (o, a.0.may)) a.1.0
    (record { clock_same = refl; closing_same = refl; idle_same = refl; sloppy_same = refl })
    (c.hear_reaping.ensures.goes k past s end f.ground.openings_are)
    (c.stay.ensures.untouched k past s (acts.Reaped c.args.place end) f.ground.lanes_are refl refl)
    refl refl refl
    (c.hear_reaping.ensures.fewer a.1.1)
    refl
