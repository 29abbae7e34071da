use Rattle.std.proofs.Common.{sym, ◌∙◌}
use Rattle.relay_model.specs.Rest.{session_work}
use Rattle.session_facts.proofs.Below.{some_below_at}
use Rattle.relay_audit.proofs.rest.some_session_works.Goals as goal

pub returns-then-session_work : goal.returns-then-session_work
returns-then-session_work c =
    sym (some_below_at (session_work c.args.past.now.config c.args.past.now.acts) c.loop-session.session c.args.count (sym c.session_work.ensures ∙ c.if-session_work.true) c.loop-session-test.true)
