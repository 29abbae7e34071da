-- By induction on the list.
use Rattle.relay_laws.proofs.Admissions.{admitted_bound}
use Rattle.relay_laws.proofs.doors.admitted_is_bounded.Goals as goal

pub returns : goal.returns
returns c = admitted_bound
