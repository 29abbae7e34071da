use Rattle.std.proofs.Common.{◌≡◌, sym, ap, subst, ◌≤◌, true, length, take, is_some}
use Rattle.session_direction.specs.Directions.{IsDirection}
use Rattle.session_direction.proofs.Steps.{wrote_some}
use Rattle.session_direction.proofs.Wanted.{may_write_some}
use Rattle.session_direction.proofs.directions.Direction.hear_write.Goals as goal

pub returns-clause-goes : goal.returns-clause-goes
returns-clause-goes c =
    λ k past s w f some going.
    let back = sym c.self.view_is in
    let g = subst (IsDirection k past s w) back f in
    let n = c.args.count in
    wrote_some k past s w _ n _ _ (ap (λ d. take n d.flow.backlog) back) c.took.ensures.backlog some (subst (λ d. n ≤ length d.flow.backlog) back c.requires.within) (subst (λ d. is_some d.flow.lane.packets ≡ true → n ≡ length d.flow.backlog) back c.requires.whole) going (c.took.ensures.took _ _ _ g.flow_is) g

pub returns-clause-may : goal.returns-clause-may
returns-clause-may c =
    λ k past s w f some may. may_write_some k past s w c.args.self.now c.args.count some c.requires.within c.requires.whole f may
