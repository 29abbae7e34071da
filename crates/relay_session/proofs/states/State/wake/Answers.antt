use Rattle.std.proofs.Common.{refl, ◌∷◌, [], false}
use Rattle.relay_model.specs.declared.acts.Act.TheVariants as acts
use Rattle.relay_session.proofs.Quiet.{quiet_after}
use Rattle.relay_session.proofs.StepLemmas.{heeds_now}
use Rattle.session_direction.specs.Directions.{listed}
use Rattle.relay_session.proofs.states.State.wake.Goals as goal

pub returns-clause-goes : goal.returns-clause-goes
returns-clause-goes c = λ k past s until g q.
    heeds_now k (acts.Turn until c.args.at (listed []) false ∷ past) s c.begin_turn.new.self _ (c.begin_turn.ensures.goes k past s until g)
    (record { openings_same = refl; lanes_same = refl; clock_same = refl; moved_same = refl; faulted_same = refl; closing_same = refl; idle_same = refl; sloppy_same = refl })
    (quiet_after k past s (acts.Turn until c.args.at (listed []) false) refl q)
    (λ h r. c.cause-self.ensures k _ s h r)
