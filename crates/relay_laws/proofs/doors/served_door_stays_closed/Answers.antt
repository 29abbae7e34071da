-- Nothing calls for a listening there.
use Rattle.relay_laws.proofs.Served.{stays_closed}
use Rattle.relay_laws.proofs.doors.served_door_stays_closed.Goals as goal

pub returns : goal.returns
returns c = stays_closed
