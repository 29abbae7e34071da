-- By induction on the list.
use Rattle.relay_laws.proofs.Admissions.{live_bound}
use Rattle.relay_laws.proofs.doors.live_is_bounded.Goals as goal

pub returns : goal.returns
returns c = live_bound
