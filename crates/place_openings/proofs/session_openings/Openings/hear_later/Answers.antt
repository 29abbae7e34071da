use Rattle.std.proofs.Common.{refl}
use Rattle.relay_model.specs.declared.calls.Call.TheVariants as calls
use Rattle.place_openings.specs.declared.steps.OpeningStep.TheVariants as steps
use Rattle.place_openings.proofs.Lifting.{moved, asked_before}
use Rattle.place_openings.proofs.Called.{answered}
use Rattle.place_openings.proofs.session_openings.Openings.hear_later.Goals as goal

pub returns-clause-goes : goal.returns-clause-goes
returns-clause-goes c = λ cfg past s are. moved (steps.OpenedLater c.args.place) _ _ cfg past _ s c.take.ensures refl are

pub returns-clause-fewer_opening : goal.returns-clause-fewer_opening
returns-clause-fewer_opening c = λ cfg past s are e. answered cfg past s (steps.OpenedLater c.args.place) (calls.Open c.args.place) _ _ are c.take.ensures e refl

pub returns-clause-fewer_settling : goal.returns-clause-fewer_settling
returns-clause-fewer_settling c = λ cfg past s are e. answered cfg past s (steps.OpenedLater c.args.place) (calls.Settle c.args.place) _ _ are c.take.ensures e refl

pub returns-clause-asked : goal.returns-clause-asked
returns-clause-asked c = asked_before _ _ _ c.take.ensures (λ p. refl)
