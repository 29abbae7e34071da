use Rattle.session_direction.proofs.Steps.{stopped}
use Rattle.session_direction.proofs.Unmoved.{unmoved_by}
use Rattle.session_direction.proofs.directions.Direction.stay.Goals as goal

pub returns-clause-untouched : goal.returns-clause-untouched
returns-clause-untouched c = λ k past s w act e f. unmoved_by k past s w _ act e f

pub returns-clause-stopped : goal.returns-clause-stopped
returns-clause-stopped c = λ k past s w until at ready f. stopped k past s w _ until at ready f
