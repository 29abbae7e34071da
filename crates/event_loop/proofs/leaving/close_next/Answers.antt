use Rattle.std.proofs.Common.{refl, sym, ap, ◌∙◌}
use Rattle.relay_session.specs.Sessions.{wish_of}
use Rattle.event_loop.specs.Closings.{closes}
use Rattle.event_loop.proofs.Closings.{closing_on, other_on, idle_on, unmoved_on, not_closes}
use Rattle.event_loop.proofs.leaving.close_next.Goals as goal

pub returns-then-is_closing-clause-leaves : goal.returns-then-is_closing-clause-leaves
returns-then-is_closing-clause-leaves g c = let s = c.in-Acted.ensures.step in λ n start past k l. closing_on c.args.config.now n start _ _ past k c.args.why c.args.session.now _ c.args.door.now _ s.0 l s.2 (ap closes (sym c.wish.ensures.wish) ∙ (sym c.closes-is_closing.ensures ∙ c.if-is_closing.true)) (λ q d e. c.cut.ensures.closing c.args.config.now past q d e)

pub returns-then-is_closing-clause-fewer : goal.returns-then-is_closing-clause-fewer
returns-then-is_closing-clause-fewer g c = let s = c.in-Acted.ensures.step in let at = c.requires.leaves in λ _. (s.2.heard at.n at.past at.s at.leaves.stands).fewer

pub returns-else-is_closing-clause-leaves : goal.returns-else-is_closing-clause-leaves
returns-else-is_closing-clause-leaves g c = let s = c.in-Acted.ensures.step in λ n start past k l. other_on c.args.config.now n start _ _ past k c.args.why c.args.session.now _ c.args.door.now s.0 l s.2 (ap closes (sym c.wish.ensures.wish) ∙ (sym c.closes-is_closing.ensures ∙ c.if-is_closing.false))

pub returns-else-is_closing-clause-fewer : goal.returns-else-is_closing-clause-fewer
returns-else-is_closing-clause-fewer g c = let s = c.in-Acted.ensures.step in let at = c.requires.leaves in λ _. (s.2.heard at.n at.past at.s at.leaves.stands).fewer

pub returns-in-ReadFailed-clause-leaves : goal.returns-in-ReadFailed-clause-leaves
returns-in-ReadFailed-clause-leaves g c = let s = c.in-ReadFailed.ensures.step in λ n start past k l. other_on c.args.config.now n start _ _ past k c.args.why c.args.session.now _ c.args.door.now _ l s.1 (not_closes (wish_of c.args.session.now) _ refl s.1.closes)

pub returns-in-ReadFailed-clause-fewer : goal.returns-in-ReadFailed-clause-fewer
returns-in-ReadFailed-clause-fewer g c = let s = c.in-ReadFailed.ensures.step in let at = c.requires.leaves in λ _. (s.1.heard at.n at.past at.s at.leaves.stands).fewer

pub returns-in-WriteFailed-clause-leaves : goal.returns-in-WriteFailed-clause-leaves
returns-in-WriteFailed-clause-leaves g c = let s = c.in-WriteFailed.ensures.step in λ n start past k l. other_on c.args.config.now n start _ _ past k c.args.why c.args.session.now _ c.args.door.now _ l s.1 (not_closes (wish_of c.args.session.now) _ refl s.1.closes)

pub returns-in-WriteFailed-clause-fewer : goal.returns-in-WriteFailed-clause-fewer
returns-in-WriteFailed-clause-fewer g c = let s = c.in-WriteFailed.ensures.step in let at = c.requires.leaves in λ _. (s.1.heard at.n at.past at.s at.leaves.stands).fewer

pub returns-in-Childless-clause-leaves : goal.returns-in-Childless-clause-leaves
returns-in-Childless-clause-leaves g c = let s = c.in-Childless.ensures.step in λ n start past k l. idle_on c.args.config.now n start _ _ past k c.args.why c.args.session.now _ c.args.door.now l s.0

pub returns-in-Childless-clause-fewer : goal.returns-in-Childless-clause-fewer
returns-in-Childless-clause-fewer g c = let s = c.in-Childless.ensures.step in let at = c.requires.leaves in λ _. (s.1 at.n at.past at.s at.leaves.stands).0

pub returns-in-Done-clause-leaves : goal.returns-in-Done-clause-leaves
returns-in-Done-clause-leaves g c = let s = c.in-Done.ensures.step in λ n start past k l. unmoved_on c.args.config.now n start _ _ past k c.args.why c.args.session.now _ c.args.door.now l s.0 s.1
