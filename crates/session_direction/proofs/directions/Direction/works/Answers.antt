use Rattle.std.proofs.Common.{◌∙◌, ◌==◌, sym, ap, subst, length}
use Rattle.std.proofs.lemmas.Bool.{eqb-true}
use Rattle.session_direction.specs.Directions.{IsDirection}
use Rattle.session_direction.proofs.Wanted.{moves_is, waits_is, work_spent, work_waits}
use Rattle.session_direction.proofs.directions.Direction.works.Goals as goal

pub returns-then-spent : goal.returns-then-spent
returns-then-spent c =
    λ k past s w f clock runs.
    let g = subst (IsDirection k past s w) (sym c.self.view_is) f in
    let moving = moves_is k past s w g.is_formed runs (sym (c.is_broken.ensures.stands k past s w f) ∙ c.if-is_broken.false) in
    c.is_worth_asking.ensures k past s w f clock ∙ work_spent k past s w moving (waits_is k past s w _ g ∙ eqb-true (length c.self.inside.flow.backlog) 0 (sym c.spent.ensures.spent ∙ c.if-spent.true))

pub returns-else-spent : goal.returns-else-spent
returns-else-spent c =
    λ k past s w f clock runs.
    let g = subst (IsDirection k past s w) (sym c.self.view_is) f in
    let moving = moves_is k past s w g.is_formed runs (sym (c.is_broken.ensures.stands k past s w f) ∙ c.if-is_broken.false) in
    g.armed_out_is ∙ work_waits k past s w moving (ap (λ n. n == 0) (waits_is k past s w _ g) ∙ sym c.spent.ensures.spent ∙ c.if-spent.false)
