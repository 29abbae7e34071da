use Rattle.std.proofs.Common.{sym, subst}
use Rattle.session_direction.specs.Directions.{IsDirection}
use Rattle.session_direction.proofs.Steps.{shut, shut_fault}
use Rattle.session_direction.proofs.Wanted.{shut_is_spent}
use Rattle.session_direction.proofs.directions.Direction.pass_end.Goals as goal

pub returns-clause-shut : goal.returns-clause-shut
returns-clause-shut c = λ k past s w way f clock may. let g = (subst (IsDirection k past s w) (sym c.self.view_is) f) in shut k past s w _ c.args.at way clock (shut_is_spent k past s w _ way g may) g

pub returns-clause-failed : goal.returns-clause-failed
returns-clause-failed c = λ k past s w way f clock may. let g = (subst (IsDirection k past s w) (sym c.self.view_is) f) in shut_fault k past s w _ c.args.at way clock (shut_is_spent k past s w _ way g may) g
