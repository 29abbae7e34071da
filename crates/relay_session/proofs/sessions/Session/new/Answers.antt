use Rattle.std.proofs.Common.{[]}
use Rattle.relay_session.proofs.Lives.{stands_by}
use Rattle.relay_session.proofs.sessions.Session.new.Goals as goal

pub returns-clause-stands : goal.returns-clause-stands
returns-clause-stands c = λ n. stands_by c.args.config.now n [] 0 _ _ (c.in_ok-state.ensures.stands n) (λ p f. c.plan-wish.ensures c.args.config.now n p 0 f)
