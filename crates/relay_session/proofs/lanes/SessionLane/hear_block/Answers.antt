use Rattle.relay_session.proofs.LaneLemmas.{block_goes}
use Rattle.relay_session.proofs.lanes.SessionLane.hear_block.Goals as goal

pub returns-in-Formed-clause-goes : goal.returns-in-Formed-clause-goes
returns-in-Formed-clause-goes c = rw c.in-Formed.is (λ k past s w f may. block_goes k past s w _ c.args.count c.min.result c.room-room.result c.args.block.now.items may c.min.ensures (λ more. c.room-room.ensures.stands k past s w f more) (λ going. c.hear_block.ensures.goes k past s w f going))
