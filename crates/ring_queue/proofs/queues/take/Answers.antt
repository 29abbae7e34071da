use Rattle.ring_queue.proofs.Moves.{takes, has_taken}
use Rattle.ring_queue.proofs.queues.take.Goals as goal

pub pop_as-requires-clause-rule : goal.pop_as-requires-clause-rule
pop_as-requires-clause-rule g c = (takes g.T.Item.follows _ _ c.requires.takes, has_taken g.T.Item.follows _ _ c.requires.takes)
