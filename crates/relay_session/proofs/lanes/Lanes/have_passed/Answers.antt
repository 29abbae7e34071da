use Rattle.std.proofs.Common.{◌&&◌}
use Rattle.relay_model.specs.declared.places.Way.TheVariants.{LeftToRight, RightToLeft}
use Rattle.relay_session.proofs.lanes.Lanes.have_passed.Goals as goal

pub returns : goal.returns
returns c = λ k past s l. (λ i. c.has_passed_if_formed.ensures k past s LeftToRight l.to_right_is i && c.has_passed_if_formed-2.ensures k past s RightToLeft l.to_left_is i)
