use Rattle.std.proofs.Common.{sym, ◌∙◌}
use Rattle.relay_model.specs.Sessions.{holds}
use Rattle.session_facts.proofs.Below.{some_below_at}
use Rattle.session_facts.proofs.outcome.some_holds.Goals as goal

pub returns-then-holds : goal.returns-then-holds
returns-then-holds c =
    sym (some_below_at (holds c.args.past.now.config c.args.past.now.acts) c.loop-session.session c.args.count (sym c.holds.ensures ∙ c.if-holds.true) c.loop-session-test.true)
