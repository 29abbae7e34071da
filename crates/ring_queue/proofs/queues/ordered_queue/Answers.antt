use Rattle.std.proofs.Common.{rules}
use Rattle.ring_queue.proofs.Moves.{begins, forks}
use Rattle.ring_queue.proofs.queues.ordered_queue.Goals as goal

pub ruled-requires-clause-rule : goal.ruled-requires-clause-rule
ruled-requires-clause-rule g c = begins g.T.Item.follows

pub another-taker-requires-clause-rule : goal.another-taker-requires-clause-rule
another-taker-requires-clause-rule g c = forks g.T.Item.follows _ _ (search rules) (search rules)
