use Rattle.std.proofs.Common.{refl, ◌∷◌, ◌++◌, [], false}
use Rattle.relay_model.specs.declared.acts.Act.TheVariants as acts
use Rattle.relay_session.proofs.StepLemmas.{heeds_step, quiet_names}
use Rattle.session_direction.specs.Directions.{listed}
use Rattle.relay_session.proofs.states.State.hear_entry.Goals as goal

pub returns-clause-goes : goal.returns-clause-goes
returns-clause-goes c = λ k past s until at names h.
    heeds_step k (acts.Turn until at (listed names) false ∷ past) (acts.Turn until at (listed (names ++ c.args.entry ∷ [])) false ∷ past) s c.args.self.now _ _ h.ground h.ground.begun h.ground.home_held
    (c.hear_entry.ensures.goes k past s until at names h.ground.openings_are)
    (c.hear_entry-2.ensures k past s until at names h.ground.lanes_are)
    h.ground.clock_is h.ground.moved_is h.ground.faulted_is refl refl refl
    (record { openings_same = refl; lanes_same = refl; clock_same = refl; moved_same = refl; faulted_same = refl; closing_same = refl; idle_same = refl; sloppy_same = refl })
    (quiet_names k past s until at names (names ++ c.args.entry ∷ []) h.quiet)
    (λ g r. c.cause-self.ensures k _ s g r)
