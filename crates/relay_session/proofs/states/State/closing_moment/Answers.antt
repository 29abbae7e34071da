use Rattle.std.proofs.Common.{sym, ap, ◌∙◌}
use Rattle.relay_session.specs.Timers.{reachable, after}
use Rattle.relay_session.proofs.TimerLemmas.{closing_of}
use Rattle.relay_session.proofs.states.State.closing_moment.Goals as goal

pub returns : goal.returns
returns c = λ k past s g. c.later_by.ensures ∙ ap reachable ((λ i. after (g.closing_is i) (c.one_done_at.ensures k past s g.lanes_are i)) ∙ sym (closing_of k past s))
