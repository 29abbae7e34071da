use Rattle.relay_session.proofs.Bounds.{steps_within}
use Rattle.relay_session.proofs.Children.{done_asked}
use Rattle.relay_session.proofs.Conditions.{goes_while, at_own}
use Rattle.relay_session.proofs.Possible.{can_be_made, free_when_done, rests_asleep}
use Rattle.relay_session.proofs.sessions.Session.wish.Goals as goal

pub returns-clause-going : goal.returns-clause-going
returns-clause-going c = λ k n past s st e. goes_while k n past s c.args.self.now.state c.args.self.now.wish st.allowed e

pub returns-clause-own : goal.returns-clause-own
returns-clause-own c = λ k n past s st. at_own k n past s c.args.self.now.wish st.allowed.0

pub returns-clause-can : goal.returns-clause-can
returns-clause-can c = λ k n past s st legal. can_be_made k n past s c.args.self.now.wish st.fields.ground.fit legal st.allowed.0

pub returns-clause-rests : goal.returns-clause-rests
returns-clause-rests c = λ k n past s until st alone first legal silent e. rests_asleep k n past s c.args.self.now.state c.args.self.now.wish until alone first st.fields st.allowed legal silent e

pub returns-clause-free : goal.returns-clause-free
returns-clause-free c = λ k n past s why st alone first legal e p. free_when_done k n past s c.args.self.now.wish why alone first legal st.allowed.0 e p

pub returns-clause-left : goal.returns-clause-left
returns-clause-left c = λ k n past s st. steps_within k past s c.args.self.now.state st.fields.ground

pub returns-clause-children : goal.returns-clause-children
returns-clause-children c = λ k n past s why st e. done_asked k n past s c.args.self.now.state c.args.self.now.wish why st.fields.ground.openings_are.each st.allowed e
