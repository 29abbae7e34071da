use Rattle.std.proofs.Common.{sym, ap, is_none, ◌∙◌}
use Rattle.place_openings.specs.Queries.{first_unready}
use Rattle.place_openings.proofs.Asked.{all_ready, one_unready, none_is}
use Rattle.place_openings.proofs.session_openings.Openings.call.Goals as goal

pub returns-then-self : goal.returns-then-self
returns-then-self c = λ cfg past s are now_is.
    let none = ap (λ os. is_none (first_unready os)) (sym c.self.view_is) ∙ (sym c.self.invariant.1.ready_is ∙ c.if-self.true) in
    sym (all_ready cfg past s c.args.self.now are (none_is (first_unready c.args.self.now) none)).call_is

pub returns-in-Some : goal.returns-in-Some
returns-in-Some c = λ cfg past s are now_is.
    let u = one_unready cfg past s c.args.self.now _ are (ap first_unready (sym c.as_slice.ensures) ∙ sym c.in-Some.ensures) in
    c.call.ensures cfg past u.place u.is now_is ∙ sym u.call_is

pub returns-in-None : goal.returns-in-None
returns-in-None c = λ cfg past s are now_is.
    sym (all_ready cfg past s c.args.self.now are (ap first_unready (sym c.as_slice.ensures) ∙ sym c.in-None.ensures)).call_is
