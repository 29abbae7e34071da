use Rattle.relay_session.proofs.sessions.Session.heard.Goals as goal

pub returns-in-Woken-clause-woken : goal.returns-in-Woken-clause-woken
returns-in-Woken-clause-woken c = λ k n past s until st w e. c.wake.ensures.woken k n past s until st w
