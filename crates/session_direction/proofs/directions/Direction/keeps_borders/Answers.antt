use Rattle.std.proofs.Common.{sym, subst, ◌∙◌}
use Rattle.session_direction.specs.Directions.{IsDirection}
use Rattle.session_direction.proofs.Wanted.{packets_are}
use Rattle.session_direction.proofs.directions.Direction.keeps_borders.Goals as goal

pub returns-clause-stands : goal.returns-clause-stands
returns-clause-stands c =
    λ k past s w f.
    let g = subst (IsDirection k past s w) (sym c.self.view_is) f in
    c.is_some.ensures ∙ packets_are k w _ (sym c.self.invariant ∙ g.flow_is.lane_is)
