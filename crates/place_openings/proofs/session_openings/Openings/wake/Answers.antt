use Rattle.std.proofs.Common.{refl}
use Rattle.place_openings.proofs.Lifting.{moved, asked_before}
use Rattle.place_openings.proofs.session_openings.Openings.wake.Goals as goal

pub returns-clause-goes : goal.returns-clause-goes
returns-clause-goes c = λ cfg past s until at are. moved _ _ _ cfg past _ s c.take.ensures (record { until = until; at = at; later_is = refl }) are

pub returns-clause-asked : goal.returns-clause-asked
returns-clause-asked c = asked_before _ _ _ c.take.ensures (λ p. refl)
