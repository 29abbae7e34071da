use Rattle.std.proofs.Common.{refl, ◌∷◌, false}
use Rattle.relay_model.specs.declared.acts.Act.TheVariants as acts
use Rattle.relay_session.proofs.Quiet.{quiet_after}
use Rattle.relay_session.proofs.StepLemmas.{heeds_now}
use Rattle.session_direction.specs.Directions.{listed}
use Rattle.relay_session.proofs.states.State.hear_turn.Goals as goal

pub returns-then-stop-clause-stops : goal.returns-then-stop-clause-stops
returns-then-stop-clause-stops c = λ k n past s until g q e.
    c.cut.ensures.stop k n past s until c.args.at c.args.ready.now.entries
    (c.hear_names.ensures.goes k past s until c.args.at (c.begin_turn.ensures.goes k past s until g))
    (quiet_after k past s (acts.Turn until c.args.at (listed c.args.ready.now.entries) false) refl q) refl

pub returns-else-stop-clause-goes : goal.returns-else-stop-clause-goes
returns-else-stop-clause-goes c = λ k past s until g q e.
    heeds_now k (acts.Turn until c.args.at (listed c.args.ready.now.entries) false ∷ past) s c.hear_names.new.self _
    (c.hear_names.ensures.goes k past s until c.args.at (c.begin_turn.ensures.goes k past s until g))
    (record { openings_same = refl; lanes_same = refl; clock_same = refl; moved_same = refl; faulted_same = refl; closing_same = refl; idle_same = refl; sloppy_same = refl })
    (quiet_after k past s (acts.Turn until c.args.at (listed c.args.ready.now.entries) false) refl q)
    (λ h r. c.cause-self.ensures k _ s h r)
