-- No act begins a holding of such a session.
use Rattle.relay_laws.proofs.Admissions.{ended_stays}
use Rattle.relay_laws.proofs.doors.ended_stays_ended.Goals as goal

pub returns : goal.returns
returns c = ended_stays
