use Rattle.std.proofs.Common.{refl}
use Rattle.relay_session.proofs.StepLemmas.{childless_step}
use Rattle.relay_session.proofs.states.State.hear_childless.Goals as goal

pub returns-clause-goes : goal.returns-clause-goes
returns-clause-goes c = λ k n past s f a.
    childless_step k n past s c.args.self.now _ f
    (record { clock_same = refl; closing_same = refl; idle_same = refl; sloppy_same = refl })
    (c.hear_reaping.ensures.childless k past s f.ground.openings_are)
    refl refl refl refl
    (c.hear_reaping.ensures.fewer a.1.1)
