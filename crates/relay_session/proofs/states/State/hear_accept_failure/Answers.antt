use Rattle.relay_session.proofs.Homes.{held_away}
use Rattle.std.proofs.Common.{refl, inl}
use Rattle.relay_model.specs.declared.acts.Act.TheVariants as acts
use Rattle.relay_model.specs.declared.calls.Call.TheVariants as calls
use Rattle.relay_session.proofs.StepLemmas.{accept_ends, ending_step, own_of, called_there, first_of_call}
use Rattle.relay_session.proofs.states.State.hear_accept_failure.Goals as goal

pub returns-clause-goes : goal.returns-clause-goes
returns-clause-goes c = λ k n past s f a.
    let own = own_of k n past s c.args.self.now (calls.Accept c.args.door c.args.place) f a.1 a.0.0 in
    ending_step k n past s _ c.args.self.now _ _ f a.1
    (held_away k past s (calls.Accept c.args.door c.args.place) c.args.door (acts.AcceptFailed c.args.door) f.ground.fit a.0.0 (inl refl) refl (λ p x. x))
    refl
    (λ o. (o, (c.args.place, called_there k n past s c.args.self.now (calls.Accept c.args.door c.args.place) c.args.door f a.0.0 (inl refl) own.0.of)))
    (record { clock_same = refl; closing_same = refl; idle_same = refl; sloppy_same = refl })
    (c.hear_accept_failure.ensures.goes k past s f.ground.openings_are)
    (c.stay.ensures.untouched k past s (acts.AcceptFailed c.args.door) f.ground.lanes_are refl refl)
    f.ground.moved_is
    f.ground.faulted_is
    refl
    (accept_ends k n past s c.args.self.now c.args.door c.args.place f a.1 a.0.0)
    (c.hear_accept_failure.ensures.fewer k past s c.args.place f.ground.openings_are (first_of_call k n past s c.args.self.now (calls.Accept c.args.door c.args.place) f a.1 a.0.0) a.0.1)
    refl
