use Rattle.std.proofs.Common.{refl, ap, Some}
use Rattle.relay_session.proofs.StepLemmas.{stop_step}
use Rattle.session_direction.specs.Directions.{listed}
use Rattle.relay_session.proofs.states.State.cut.Goals as goal

pub returns-clause-stop : goal.returns-clause-stop
returns-clause-stop c = λ k n past s until at names g q e.
    stop_step k n past s until at names c.args.self.now _ g q
    (c.stay_unmoved.ensures.stopped k past s until at (listed names) g.openings_are)
    (c.stay.ensures.stopped k past s until at (listed names) g.lanes_are)
    (record { clock_same = refl; closing_same = refl; idle_same = refl; sloppy_same = refl })
    refl refl (ap Some e)
