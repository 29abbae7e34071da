use Rattle.std.proofs.Common.{sym, subst, ◌∙◌}
use Rattle.session_direction.specs.Directions.{IsDirection}
use Rattle.session_direction.proofs.Wanted.{room_is}
use Rattle.session_direction.proofs.directions.Direction.room.Goals as goal

pub returns-clause-stands : goal.returns-clause-stands
returns-clause-stands c =
    λ k past s w f more.
    let g = subst (IsDirection k past s w) (sym c.self.view_is) f in
    c.room.ensures.size _ _ _ g.flow_is ∙ room_is k past s w more
