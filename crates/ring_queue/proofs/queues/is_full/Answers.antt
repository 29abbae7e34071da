use Rattle.ring_queue.proofs.Moves.{has_sent}
use Rattle.ring_queue.proofs.queues.is_full.Goals as goal

pub is_full_as-requires-clause-rule : goal.is_full_as-requires-clause-rule
is_full_as-requires-clause-rule g c = has_sent g.T.Item.follows _ _ c.requires.sends
