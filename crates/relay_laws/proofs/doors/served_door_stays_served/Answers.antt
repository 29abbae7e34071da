-- Nothing calls for an opening, a listening or an accepting there, and it isn't held.
use Rattle.relay_laws.proofs.Served.{stays_served}
use Rattle.relay_laws.proofs.doors.served_door_stays_served.Goals as goal

pub returns : goal.returns
returns c = stays_served
