use Rattle.relay_session.proofs.Homes.{held_away}
use Rattle.std.proofs.Common.{refl, inl, inr}
use Rattle.relay_model.specs.declared.acts.Act.TheVariants as acts
use Rattle.relay_model.specs.declared.calls.Call.TheVariants as calls
use Rattle.relay_session.proofs.StepLemmas.{opening_step, own_of, called_there, first_of_call}
use Rattle.relay_session.proofs.states.State.hear_later.Goals as goal

pub returns-clause-goes : goal.returns-clause-goes
returns-clause-goes c = λ k n past s f a.
    let own = own_of k n past s c.args.self.now (calls.Open c.args.place) f a.1 a.0 in
    opening_step k n past s _ c.args.self.now _ _ f a.1
    (held_away k past s (calls.Open c.args.place) c.args.place (acts.OpenLater c.args.place) f.ground.fit a.0 refl refl (λ p x. x))
    refl refl
    (λ o. (o, inl (called_there k n past s c.args.self.now (calls.Open c.args.place) c.args.place f a.0 refl own.0.of)))
    (record { clock_same = refl; closing_same = refl; idle_same = refl; sloppy_same = refl })
    (c.hear_later.ensures.goes k past s f.ground.openings_are)
    (c.stay.ensures.untouched k past s (acts.OpenLater c.args.place) f.ground.lanes_are refl refl)
    (f.ground.moved_is)
    f.ground.faulted_is
    (record { openings_same = refl; lanes_same = refl; clock_same = refl; moved_same = refl; faulted_same = refl; closing_same = refl; idle_same = refl; sloppy_same = refl })
    (λ g q. c.cause-self.ensures k _ s g q)
    (c.hear_later.ensures.fewer_opening k past s f.ground.openings_are (first_of_call k n past s c.args.self.now (calls.Open c.args.place) f a.1 a.0))
    (refl)

pub returns-clause-settles : goal.returns-clause-settles
returns-clause-settles c = λ k n past s f a.
    let own = own_of k n past s c.args.self.now (calls.Settle c.args.place) f a.1 a.0 in
    opening_step k n past s _ c.args.self.now _ _ f a.1
    (held_away k past s (calls.Settle c.args.place) c.args.place (acts.OpenLater c.args.place) f.ground.fit a.0 refl refl (λ p x. x))
    refl refl
    (λ o. (o, inr (called_there k n past s c.args.self.now (calls.Settle c.args.place) c.args.place f a.0 refl own.0.of)))
    (record { clock_same = refl; closing_same = refl; idle_same = refl; sloppy_same = refl })
    (c.hear_later.ensures.goes k past s f.ground.openings_are)
    (c.stay.ensures.untouched k past s (acts.OpenLater c.args.place) f.ground.lanes_are refl refl)
    (f.ground.moved_is)
    f.ground.faulted_is
    (record { openings_same = refl; lanes_same = refl; clock_same = refl; moved_same = refl; faulted_same = refl; closing_same = refl; idle_same = refl; sloppy_same = refl })
    (λ g q. c.cause-self.ensures k _ s g q)
    (c.hear_later.ensures.fewer_settling k past s f.ground.openings_are (first_of_call k n past s c.args.self.now (calls.Settle c.args.place) f a.1 a.0))
    (refl)
