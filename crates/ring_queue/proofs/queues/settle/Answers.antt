use Rattle.std.proofs.Common.{rules}
use Rattle.ring_queue.proofs.Moves.{merges, totals}
use Rattle.ring_queue.proofs.queues.settle.Goals as goal

pub absorb-requires-clause-rule : goal.absorb-requires-clause-rule
absorb-requires-clause-rule g c = merges g.T.Item.follows _ _ _ _ c.requires.sides.0 c.requires.sides.1

pub learn_as-requires-clause-rule : goal.learn_as-requires-clause-rule
learn_as-requires-clause-rule g c = totals g.T.Item.follows _ _ (search rules) (search rules)
