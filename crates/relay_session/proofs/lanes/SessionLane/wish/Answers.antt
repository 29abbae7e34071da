use Rattle.std.proofs.Common.{true, false}
use Rattle.std.proofs.lemmas.Bool.{leb-true}
use Rattle.relay_session.proofs.LaneLemmas.{reads_of, offers_of}
use Rattle.relay_session.proofs.lanes.SessionLane.wish.Goals as goal

pub returns-in-Read : goal.returns-in-Read
returns-in-Read c = rw c.in-Formed.is (λ k past s w l now runs fit. reads_of k past s w _ c.args.extra c.in-Read.at_most l (c.in-Read.ensures.wants k past s w l now runs (leb-true 1 k.block fit.some_block)) c.in-Read.ensures.affords _ c.source.ensures)

pub returns-in-Write : goal.returns-in-Write
returns-in-Write c = rw c.in-Formed.is (λ k past s w l now runs fit. offers_of k past s w _ c.args.extra false l (c.in-Write.ensures.wants k past s w l now runs (leb-true 1 k.block fit.some_block)) c.in-Write.ensures.affords _ c.sink-in-Write.ensures)

pub returns-in-Send : goal.returns-in-Send
returns-in-Send c = rw c.in-Formed.is (λ k past s w l now runs fit. offers_of k past s w _ c.args.extra true l (c.in-Send.ensures.wants k past s w l now runs (leb-true 1 k.block fit.some_block)) c.in-Send.ensures.affords _ c.sink-in-Send.ensures)
