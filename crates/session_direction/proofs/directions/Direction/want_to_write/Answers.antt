use Rattle.std.proofs.Common.{◌∙◌, sym, subst, true, false}
use Rattle.session_direction.specs.Directions.{IsDirection}
use Rattle.session_direction.proofs.Wanted.{packets_are, wants_write}
use Rattle.session_direction.proofs.directions.Direction.want_to_write.Goals as goal

pub returns-then-is_some-clause-wants : goal.returns-then-is_some-clause-wants
returns-then-is_some-clause-wants c =
    λ k past s w f going may.
    let g = subst (IsDirection k past s w) (sym c.self.view_is) f in
    wants_write k past s w true may going (sym (packets_are k w _ (sym c.self.invariant ∙ g.flow_is.lane_is)) ∙ sym c.is_some.ensures ∙ c.if-is_some.true)

pub returns-else-is_some-clause-wants : goal.returns-else-is_some-clause-wants
returns-else-is_some-clause-wants c =
    λ k past s w f going may.
    let g = subst (IsDirection k past s w) (sym c.self.view_is) f in
    wants_write k past s w false may going (sym (packets_are k w _ (sym c.self.invariant ∙ g.flow_is.lane_is)) ∙ sym c.is_some.ensures ∙ c.if-is_some.false)
