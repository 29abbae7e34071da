use Rattle.relay_model.specs.declared.places.Way.TheVariants.{LeftToRight, RightToLeft}
use Rattle.relay_session.proofs.lanes.Lanes.stay.Goals as goal

pub returns-clause-untouched : goal.returns-clause-untouched
returns-clause-untouched c = λ k past s act l r t. record { to_right_is = c.stay.ensures.untouched k past s LeftToRight act l.to_right_is r; to_left_is = c.stay-2.ensures.untouched k past s RightToLeft act l.to_left_is t; grant_is = l.grant_is; extra_within = l.extra_within }

pub returns-clause-stopped : goal.returns-clause-stopped
returns-clause-stopped c = λ k past s until at ready l. record { to_right_is = c.stay.ensures.stopped k past s LeftToRight until at ready l.to_right_is; to_left_is = c.stay-2.ensures.stopped k past s RightToLeft until at ready l.to_left_is; grant_is = l.grant_is; extra_within = l.extra_within }
