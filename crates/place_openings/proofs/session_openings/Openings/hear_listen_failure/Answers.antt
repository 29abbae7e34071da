use Rattle.std.proofs.Common.{refl}
use Rattle.relay_model.specs.declared.calls.Call.TheVariants as calls
use Rattle.place_openings.specs.declared.steps.OpeningStep.TheVariants as steps
use Rattle.place_openings.proofs.Lifting.{moved, asked_before}
use Rattle.place_openings.proofs.Called.{answered}
use Rattle.place_openings.proofs.session_openings.Openings.hear_listen_failure.Goals as goal

pub returns-clause-goes : goal.returns-clause-goes
returns-clause-goes c = λ cfg past s are f m. moved (steps.ListenFailed c.args.door c.args.at) _ _ cfg past _ s c.take.ensures (f, m, refl) are

pub returns-clause-fewer : goal.returns-clause-fewer
returns-clause-fewer c = λ cfg past s are e. answered cfg past s (steps.ListenFailed c.args.door c.args.at) (calls.Listen c.args.door) _ _ are c.take.ensures e refl

pub returns-clause-asked : goal.returns-clause-asked
returns-clause-asked c = asked_before _ _ _ c.take.ensures (λ p. refl)
