use Rattle.std.proofs.Common.{sym, ◌∙◌, ap, is_some}
use Rattle.relay_laws.proofs.OwnThings.{each_place, among_own}
use Rattle.relay_model.specs.Configs.{places}
use Rattle.relay_session.proofs.Own.{of_places}
use Rattle.relay_session.proofs.Plans.{ends_of}
use Rattle.relay_session.proofs.states.State.plan_last.Goals as goal

pub returns-in-Some : goal.returns-in-Some
returns-in-Some c = λ k n past s f e h.
    let r = c.child.ensures.some k past s c.in-Some.place f.ground.openings_are c.in-Some.is in
    (record { own = (among_own k s c.in-Some.place (places k s) (each_place k s) r.3).0; among = of_places k s c.in-Some.place r.3; may = record { is_child = r.0; closed = r.1; first = r.2 } }, (ap is_some e, sym c.child.ensures.state ∙ c.in-Some.is))

pub returns-in-None : goal.returns-in-None
returns-in-None c = λ k n past s f e h. (record { nothing_held = h; ends = ends_of k n past s c.args.self.now.ending c.args.why f.ending_is e }, (e, c.child.ensures.none c.in-None.is))
