use Rattle.relay_session.proofs.lanes.SessionLane.stay.Goals as goal

pub returns-in-Formed-clause-stopped : goal.returns-in-Formed-clause-stopped
returns-in-Formed-clause-stopped c = rw c.in-Formed.is c.stay.ensures.stopped
