use Rattle.std.proofs.Common.{◌∙◌, ◌||◌, sym, ap, subst}
use Rattle.session_direction.specs.Directions.{IsDirection}
use Rattle.session_direction.proofs.Wanted.{over_is}
use Rattle.session_direction.proofs.directions.Direction.is_over.Goals as goal

pub returns-else-self : goal.returns-else-self
returns-else-self c =
    λ k past s w f.
    let g = subst (IsDirection k past s w) (sym c.self.view_is) f in
    ap (λ e. e || c.over.result) (sym c.if-self.false) ∙ over_is k past s w _ c.over.result (c.over.ensures.met _ _ _ g.flow_is) g
