use Rattle.std.proofs.Common.{sym, ap, ◌∙◌}
use Rattle.place_openings.specs.Queries.{first_unready}
use Rattle.place_openings.proofs.Asked.{all_ready, one_unready}
use Rattle.place_openings.proofs.Called.{asked_is}
use Rattle.place_openings.proofs.session_openings.Openings.has_asked.Goals as goal

pub returns-in-Some : goal.returns-in-Some
returns-in-Some c = λ cfg past s door place are called.
    let u = one_unready cfg past s c.args.self.now _ are (ap first_unready (sym c.as_slice.ensures) ∙ sym c.in-Some.ensures) in
    asked_is cfg past u.place _ u.is door place (sym u.call_is ∙ called)

pub returns-in-None : goal.returns-in-None
returns-in-None c = λ cfg past s door place are called.
    let e = sym (all_ready cfg past s c.args.self.now are (ap first_unready (sym c.as_slice.ensures) ∙ sym c.in-None.ensures)).call_is ∙ called in
    cc
