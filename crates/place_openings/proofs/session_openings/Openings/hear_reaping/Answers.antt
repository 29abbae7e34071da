use Rattle.std.proofs.Common.{refl, inl, inr}
use Rattle.place_openings.specs.declared.steps.OpeningStep.TheVariants as steps
use Rattle.place_openings.proofs.Lifting.{moved, asked_each}
use Rattle.place_openings.proofs.Called.{asked_child}
use Rattle.place_openings.proofs.session_openings.Openings.hear_reaping.Goals as goal

pub returns-clause-goes : goal.returns-clause-goes
returns-clause-goes c = λ cfg past s end are. moved (steps.Reaped c.args.place) _ _ cfg past _ s c.take.ensures (inl (record { end = end; later_is = refl })) are

pub returns-clause-childless : goal.returns-clause-childless
returns-clause-childless c = λ cfg past s are. moved (steps.Reaped c.args.place) _ _ cfg past past s c.take.ensures (inr refl) are

pub returns-clause-fewer : goal.returns-clause-fewer
returns-clause-fewer c = λ e. asked_child c.args.place _ _ c.take.ensures e

pub returns-clause-asked : goal.returns-clause-asked
returns-clause-asked c = λ p e. asked_each (steps.Reaped c.args.place) _ _ c.take.ensures p e
