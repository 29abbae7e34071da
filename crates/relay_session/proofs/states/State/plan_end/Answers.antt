use Rattle.std.proofs.Common.{sym, subst, refl}
use Rattle.relay_session.specs.States.{ClosesFor}
use Rattle.relay_session.proofs.Causes.{licensed_by}
use Rattle.relay_session.proofs.Plans.{ends_of}
use Rattle.relay_session.proofs.states.State.plan_end.Goals as goal

pub returns-in-Some : goal.returns-in-Some
returns-in-Some c = λ k n past s f e.
    let h = c.held_thing.ensures.some k past s c.in-Some.thing f.ground.openings_are c.in-Some.is in
    (record { is_held = h.0; own = h.1; licensed = licensed_by k n past s c.in-Some.thing c.args.why h.1 (ends_of k n past s c.args.self.now.ending c.args.why f.ending_is e) }, subst (λ x. ClosesFor k past s x c.in-Some.thing c.args.why) (sym e) refl)

pub returns-in-None : goal.returns-in-None
returns-in-None c = λ k n past s f e. c.plan_last.ensures k n past s f e (c.held_thing.ensures.none k past s f.ground.openings_are c.in-None.is)
