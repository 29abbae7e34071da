use Rattle.relay_session.proofs.lanes.SessionLane.hear_entry.Goals as goal

pub returns-in-Formed : goal.returns-in-Formed
returns-in-Formed c = rw c.in-Formed.is c.hear_entry.ensures.goes
