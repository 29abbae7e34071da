-- Such a session calls for nothing.
use Rattle.relay_laws.proofs.Admissions.{ended_begins}
use Rattle.relay_laws.proofs.doors.caused_begins_nothing.Goals as goal

pub returns : goal.returns
returns c = ended_begins
