use Rattle.std.proofs.Common.{arith}
use Rattle.relay_model.specs.declared.places.Way.TheVariants.{LeftToRight, RightToLeft}
use Rattle.relay_session.proofs.lanes.Lanes.wake.Goals as goal

pub returns : goal.returns
returns c = λ k past s until at l. record { to_right_is = c.wake.ensures k past s LeftToRight until at l.to_right_is; to_left_is = c.wake-2.ensures k past s RightToLeft until at l.to_left_is; grant_is = l.grant_is; extra_within = omega arith }
