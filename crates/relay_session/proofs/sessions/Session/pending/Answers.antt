use Rattle.relay_session.proofs.Conditions.{offers_some}
use Rattle.relay_session.proofs.Packets.{packet_offered}
use Rattle.relay_session.proofs.sessions.Session.pending.Goals as goal

pub returns-clause-offers : goal.returns-clause-offers
returns-clause-offers c = λ k n past s st e. offers_some k n past s c.args.self.now.state c.args.self.now.wish _ st.fields st.allowed.0 e c.offer.ensures.some

pub returns-clause-packet : goal.returns-clause-packet
returns-clause-packet c = λ k n past s p st legal e. packet_offered k n past s c.args.self.now.state c.args.self.now.wish p _ st.fields st.allowed.0 legal e c.offer.ensures.whole
