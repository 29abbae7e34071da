use Rattle.relay_session.proofs.Lives.{asleep, turn_heard}
use Rattle.relay_session.proofs.Plans.{quiet_while}
use Rattle.relay_session.proofs.sessions.Session.hear_turn.Goals as goal

pub returns-clause-hears : goal.returns-clause-hears
returns-clause-hears c = λ k n past s until st w.
    let ground = st.fields.ground in
    let quiet = (quiet_while k n past s c.args.self.now.state.ending st.fields.ending_is (asleep k n past s c.args.self.now.state c.args.self.now.wish until st.allowed w)).0 in
    turn_heard k n past s until c.args.now c.args.ready.now c.args.stop _ _ quiet.unclosed
    (c.hear_turn.ensures.goes k past s until ground quiet) (c.hear_turn.ensures.stops k n past s until ground quiet) c.hear_turn.ensures.over (λ p f. c.plan-self.ensures k n p s f)
