use Rattle.std.proofs.Common.{refl, ◌∷◌, [], false}
use Rattle.relay_model.specs.declared.acts.Act.TheVariants as acts
use Rattle.relay_session.proofs.StepLemmas.{ground_step}
use Rattle.session_direction.specs.Directions.{listed}
use Rattle.relay_session.proofs.states.State.begin_turn.Goals as goal

pub returns-clause-goes : goal.returns-clause-goes
returns-clause-goes c = λ k past s until g.
    ground_step k past (acts.Turn until c.args.at (listed []) false ∷ past) s c.args.self.now _ g g.begun g.home_held
    (c.wake.ensures.goes k past s until c.args.at g.openings_are)
    (c.wake-2.ensures k past s until c.args.at g.lanes_are)
    refl g.moved_is g.faulted_is refl refl refl
