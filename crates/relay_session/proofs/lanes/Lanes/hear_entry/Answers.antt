use Rattle.relay_model.specs.declared.places.Way.TheVariants.{LeftToRight, RightToLeft}
use Rattle.relay_session.proofs.lanes.Lanes.hear_entry.Goals as goal

pub returns : goal.returns
returns c = λ k past s until at names l. record { to_right_is = c.hear_entry.ensures k past s LeftToRight until at names l.to_right_is; to_left_is = c.hear_entry-2.ensures k past s RightToLeft until at names l.to_left_is; grant_is = l.grant_is; extra_within = l.extra_within }
