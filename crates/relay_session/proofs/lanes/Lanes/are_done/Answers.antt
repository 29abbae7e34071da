use Rattle.std.proofs.Common.{◌∙◌, ap, not, ◌&&◌}
use Rattle.relay_model.specs.declared.places.Way.TheVariants.{LeftToRight, RightToLeft}
use Rattle.relay_session.proofs.TimerLemmas.{unfinished_of}
use Rattle.relay_session.proofs.lanes.Lanes.are_done.Goals as goal

pub returns-clause-each : goal.returns-clause-each
returns-clause-each c = λ k past s l. (λ i. c.is_done_if_formed.ensures k past s LeftToRight l.to_right_is i && c.is_done_if_formed-2.ensures k past s RightToLeft l.to_left_is i)

pub returns-clause-unfinished : goal.returns-clause-unfinished
returns-clause-unfinished c = λ k past s l. ap not (λ i. c.is_done_if_formed.ensures k past s LeftToRight l.to_right_is i && c.is_done_if_formed-2.ensures k past s RightToLeft l.to_left_is i) ∙ unfinished_of k past s
