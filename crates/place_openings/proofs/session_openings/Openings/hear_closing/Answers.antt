use Rattle.std.proofs.Common.{refl}
use Rattle.relay_model.specs.declared.calls.Call.TheVariants as calls
use Rattle.place_openings.specs.declared.steps.OpeningStep.TheVariants as steps
use Rattle.place_openings.proofs.Lifting.{moved, asked_before}
use Rattle.place_openings.proofs.Called.{answered, closed_held}
use Rattle.place_openings.proofs.session_openings.Openings.hear_closing.Goals as goal

pub returns-clause-goes : goal.returns-clause-goes
returns-clause-goes c = λ cfg past s are. moved (steps.Closed c.args.thing c.args.why) _ _ cfg past _ s c.take.ensures refl are

pub returns-clause-fewer : goal.returns-clause-fewer
returns-clause-fewer c = λ cfg past s are h own. closed_held cfg past s c.args.thing c.args.why _ _ are c.take.ensures h own

pub returns-clause-fewer_refusing : goal.returns-clause-fewer_refusing
returns-clause-fewer_refusing c = λ cfg past s are e. answered cfg past s (steps.Closed c.args.thing c.args.why) (calls.Refuse c.args.thing) _ _ are c.take.ensures e refl

pub returns-clause-fewer_serving : goal.returns-clause-fewer_serving
returns-clause-fewer_serving c = λ cfg past s are e. answered cfg past s (steps.Closed c.args.thing c.args.why) (calls.Serve c.args.thing) _ _ are c.take.ensures e refl

pub returns-clause-asked : goal.returns-clause-asked
returns-clause-asked c = asked_before _ _ _ c.take.ensures (λ p. refl)
