use Rattle.ring_queue.proofs.Moves.{has_taken}
use Rattle.ring_queue.proofs.queues.is_empty.Goals as goal

pub is_empty_as-requires-clause-rule : goal.is_empty_as-requires-clause-rule
is_empty_as-requires-clause-rule g c = has_taken g.T.Item.follows _ _ c.requires.takes
