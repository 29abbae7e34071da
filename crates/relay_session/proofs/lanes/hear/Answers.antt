use Rattle.relay_session.proofs.LaneLemmas.{writes_at, wrote_goes}
use Rattle.relay_session.proofs.lanes.hear.Goals as goal

pub returns-in-Wrote-clause-goes : goal.returns-in-Wrote-clause-goes
returns-in-Wrote-clause-goes c = rw c.in-Wrote.is (λ k past s w f now may. wrote_goes k past s w _ _ c.in-Wrote.count _ f may c.count_taken.ensures.same (λ some going. c.hear_write.ensures.goes k past s w f some going))

pub returns-in-WriteFailed-clause-goes : goal.returns-in-WriteFailed-clause-goes
returns-in-WriteFailed-clause-goes c = rw c.in-WriteFailed.is (λ k past s w f now may. c.hear_write_failure.ensures.goes k past s w f now (writes_at k past s w may.offers).whole)

pub returns-in-Shut-clause-goes : goal.returns-in-Shut-clause-goes
returns-in-Shut-clause-goes c = rw c.in-Shut.is (λ k past s w f now may. c.pass_end.ensures.shut k past s w _ f now may)

pub returns-in-ShutFailed-clause-goes : goal.returns-in-ShutFailed-clause-goes
returns-in-ShutFailed-clause-goes c = rw c.in-ShutFailed.is (λ k past s w f now may. c.pass_end-in-ShutFailed.ensures.failed k past s w _ f now may)
