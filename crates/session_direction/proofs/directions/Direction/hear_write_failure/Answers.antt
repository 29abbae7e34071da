use Rattle.std.proofs.Common.{sym, subst}
use Rattle.session_direction.specs.Directions.{IsDirection}
use Rattle.session_direction.proofs.Steps.{write_fault}
use Rattle.session_direction.proofs.directions.Direction.hear_write_failure.Goals as goal

pub returns-clause-goes : goal.returns-clause-goes
returns-clause-goes c = λ k past s w f clock whole. rw c.broken_by_fault-self-inside.ensures (write_fault k past s w _ c.args.at clock whole (subst (IsDirection k past s w) (sym c.self.view_is) f))
