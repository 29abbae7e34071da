use Rattle.std.proofs.Common.{sym, subst}
use Rattle.session_direction.specs.Directions.{IsDirection}
use Rattle.session_direction.proofs.Steps.{read_not_yet}
use Rattle.session_direction.proofs.directions.Direction.hear_read_not_yet.Goals as goal

pub returns-clause-goes : goal.returns-clause-goes
returns-clause-goes c = λ k past s w f. read_not_yet k past s w _ (subst (IsDirection k past s w) (sym c.self.view_is) f)
