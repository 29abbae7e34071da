use Rattle.relay_session.proofs.lanes.SessionLane.hear.Goals as goal

pub returns-in-Formed-clause-goes : goal.returns-in-Formed-clause-goes
returns-in-Formed-clause-goes c = rw c.in-Formed.is (λ k past s w f now may. c.hear.ensures.goes k past s w f now may)

pub returns-in-Formed-clause-fewer : goal.returns-in-Formed-clause-fewer
returns-in-Formed-clause-fewer c = rw c.in-Formed.is (λ k past s w f may. c.hear.ensures.fewer k past s w f may)
