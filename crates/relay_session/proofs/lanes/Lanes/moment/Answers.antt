use Rattle.std.proofs.Common.{◌∙◌}
use Rattle.relay_model.specs.declared.places.Way.TheVariants.{LeftToRight, RightToLeft}
use Rattle.relay_model.specs.Choices.{earlier}
use Rattle.relay_session.proofs.lanes.Lanes.moment.Goals as goal

pub returns : goal.returns
returns c = λ k past s l now runs. c.earlier.ensures ∙ (λ i. earlier (c.moment.ensures k past s LeftToRight l.to_right_is now runs i) (c.moment-2.ensures k past s RightToLeft l.to_left_is now runs i))
