use Rattle.std.proofs.Common.{◌∙◌}
use Rattle.relay_session.proofs.Births.{peer_at_home}
use Rattle.relay_session.proofs.sessions.Session.peer.Goals as goal

pub returns-clause-home : goal.returns-clause-home
returns-clause-home c = λ k n past s st. c.peer_of_first.ensures k past s st.fields.ground.openings_are ∙ peer_at_home k past s
