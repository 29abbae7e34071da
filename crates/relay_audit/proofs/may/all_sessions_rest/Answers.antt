use Rattle.std.proofs.Common.{sym, ◌∙◌}
use Rattle.relay_model.specs.Audit.{session_rests}
use Rattle.session_facts.proofs.Below.{each_below_at}
use Rattle.relay_audit.proofs.may.all_sessions_rest.Goals as goal

pub returns-then-not-quiet : goal.returns-then-not-quiet
returns-then-not-quiet c =
    sym (each_below_at (session_rests c.args.past.now.config c.args.past.now.acts) c.loop-session.session c.args.count (sym c.session_rests-quiet.ensures ∙ c.if-not-quiet.true) c.loop-session-test.true)
