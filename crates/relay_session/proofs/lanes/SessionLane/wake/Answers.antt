use Rattle.relay_session.proofs.lanes.SessionLane.wake.Goals as goal

pub returns-in-Formed : goal.returns-in-Formed
returns-in-Formed c = rw c.in-Formed.is c.wake.ensures
