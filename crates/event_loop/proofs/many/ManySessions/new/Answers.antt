use Rattle.event_loop.proofs.many.ManySessions.new.Goals as goal

pub returns : goal.returns
returns c = λ n start free. record { fit = c.requires.fit; sessions = (c.in_ok-sessions.ensures.begins n start free, c.in_ok-sessions.ensures.idle) }
