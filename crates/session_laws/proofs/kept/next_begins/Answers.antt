use Rattle.session_laws.proofs.Beginnings.{next}
use Rattle.session_laws.proofs.kept.next_begins.Goals as goal

pub returns : goal.returns
returns c = next
