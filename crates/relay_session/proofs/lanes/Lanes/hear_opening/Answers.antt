use Rattle.relay_model.specs.declared.places.Way.TheVariants.{LeftToRight, RightToLeft}
use Rattle.relay_session.proofs.lanes.Lanes.hear_opening.Goals as goal

pub returns-clause-opened : goal.returns-clause-opened
returns-clause-opened c = λ k past s l. record { to_right_is = c.hear_opening.ensures.opened k past s LeftToRight l.to_right_is; to_left_is = c.hear_opening-2.ensures.opened k past s RightToLeft l.to_left_is; grant_is = l.grant_is; extra_within = l.extra_within }

pub returns-clause-accepted : goal.returns-clause-accepted
returns-clause-accepted c = λ k past s peer l. record { to_right_is = c.hear_opening.ensures.accepted k past s LeftToRight peer l.to_right_is; to_left_is = c.hear_opening-2.ensures.accepted k past s RightToLeft peer l.to_left_is; grant_is = l.grant_is; extra_within = l.extra_within }
