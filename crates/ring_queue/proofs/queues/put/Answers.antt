use Rattle.ring_queue.proofs.Moves.{sends, has_sent}
use Rattle.ring_queue.proofs.queues.put.Goals as goal

pub push_as-requires-clause-rule : goal.push_as-requires-clause-rule
push_as-requires-clause-rule g c = (sends g.T.Item.follows _ _ _ _ c.requires.sends c.requires.follows, has_sent g.T.Item.follows _ _ c.requires.sends)
