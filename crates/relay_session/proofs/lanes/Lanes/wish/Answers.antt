use Rattle.relay_model.specs.declared.places.Way.TheVariants.{LeftToRight, RightToLeft}
use Rattle.std.proofs.Common.{subst, arith}
use Rattle.relay_session.specs.Lanes.{LaneWishes}
use Rattle.relay_session.proofs.LaneLemmas.{lanes_wish, last_wish}
use Rattle.relay_session.proofs.lanes.Lanes.wish.Goals as goal

pub returns-in-Some : goal.returns-in-Some
returns-in-Some c = λ k past s l now runs fit. lanes_wish k past s LeftToRight c.args.self.now c.saturating_sub.result c.in-Some.wish (omega (arith, c.saturating_sub.ensures)) (subst (LaneWishes k past s LeftToRight c.args.self.now.to_right c.saturating_sub.result) c.in-Some.is (c.wish.ensures k past s LeftToRight l.to_right_is now runs fit))

pub returns-in-None : goal.returns-in-None
returns-in-None c = λ k past s l now runs fit. last_wish k past s c.args.self.now c.wish-in-None.result (subst (LaneWishes k past s LeftToRight c.args.self.now.to_right c.saturating_sub.result) c.in-None.is (c.wish.ensures k past s LeftToRight l.to_right_is now runs fit)) (c.wish-in-None.ensures k past s RightToLeft l.to_left_is now runs fit)
