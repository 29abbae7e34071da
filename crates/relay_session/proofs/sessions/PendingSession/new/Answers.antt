use Rattle.relay_session.proofs.sessions.PendingSession.new.Goals as goal

pub returns : goal.returns
returns c = record { is_new = c.in_ok-state.ensures; home_is = c.home_of-home.ensures }
