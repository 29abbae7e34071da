use Rattle.std.proofs.Common.{refl, ap, is_none, ◌∙◌}
use Rattle.place_openings.specs.Queries.{first_unready}
use Rattle.place_openings.proofs.Asked.{ready_by_none}
use Rattle.place_openings.proofs.session_openings.Openings.is_ready.Goals as goal

pub returns : goal.returns
returns c = λ cfg past s are.
    c.self.invariant.1.ready_is ∙ (ap (λ os. is_none (first_unready os)) c.self.view_is ∙ ready_by_none cfg past s c.args.self.now are _ refl)
