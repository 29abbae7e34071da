use Rattle.std.proofs.Common.{refl, ap, [], ◌∷◌}
use Rattle.relay_model.specs.declared.places.Place.{Place}
use Rattle.relay_model.specs.declared.acts.Act.TheVariants as acts
use Rattle.relay_session.proofs.Births.{born}
use Rattle.relay_session.proofs.states.State.begin.Goals as goal

pub returns-clause-begun : goal.returns-clause-begun
returns-clause-begun c = λ k n past s fresh begins at clock.
    born k n past s c.args.place c.args.peer c.args.self.now _ _ fresh begins at
    (c.hear_peer.ensures.goes k [] s fresh.openings_are (ap (λ (x : Place). x.door) at))
    (c.hear_opening.ensures.accepted k [] s c.args.peer fresh.lanes_are)
    clock clock refl refl refl refl
    (record { openings_same = refl; lanes_same = refl; clock_same = refl; moved_same = refl; faulted_same = refl; closing_same = refl; idle_same = refl; sloppy_same = refl })
    (λ g q. c.cause-self.ensures k (acts.Accepted c.args.place c.args.peer ∷ past) s g q)
