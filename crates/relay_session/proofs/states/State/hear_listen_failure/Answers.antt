use Rattle.relay_session.proofs.Homes.{held_away}
use Rattle.std.proofs.Common.{refl}
use Rattle.relay_model.specs.declared.acts.Act.TheVariants as acts
use Rattle.relay_model.specs.declared.calls.Call.TheVariants as calls
use Rattle.relay_session.proofs.StepLemmas.{opening_step, own_of, called_there, first_of_call}
use Rattle.relay_session.proofs.states.State.hear_listen_failure.Goals as goal

pub returns-clause-goes : goal.returns-clause-goes
returns-clause-goes c = λ k n past s f a.
    let own = own_of k n past s c.args.self.now (calls.Listen c.args.door) f a.1 a.0 in
    opening_step k n past s _ c.args.self.now _ _ f a.1
    (held_away k past s (calls.Listen c.args.door) c.args.door (acts.ListenFailed c.args.door) f.ground.fit a.0 refl refl (λ p x. x))
    refl refl
    (λ o. (o, called_there k n past s c.args.self.now (calls.Listen c.args.door) c.args.door f a.0 refl own.of))
    (record { clock_same = refl; closing_same = refl; idle_same = refl; sloppy_same = refl })
    (c.hear_listen_failure.ensures.goes k past s f.ground.openings_are own.door f.ground.clock_is)
    (c.stay.ensures.untouched k past s (acts.ListenFailed c.args.door) f.ground.lanes_are refl refl)
    (f.ground.moved_is)
    f.ground.faulted_is
    (record { openings_same = refl; lanes_same = refl; clock_same = refl; moved_same = refl; faulted_same = refl; closing_same = refl; idle_same = refl; sloppy_same = refl })
    (λ g q. c.cause-self.ensures k _ s g q)
    (c.hear_listen_failure.ensures.fewer k past s f.ground.openings_are (first_of_call k n past s c.args.self.now (calls.Listen c.args.door) f a.1 a.0))
    (refl)
