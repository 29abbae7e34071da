use Rattle.std.proofs.Common.{sym, ◌∙◌}
use Rattle.relay_model.specs.Sessions.{live}
use Rattle.session_facts.proofs.Below.{some_below_at}
use Rattle.session_facts.proofs.outcome.some_lives.Goals as goal

pub returns-then-live : goal.returns-then-live
returns-then-live c =
    sym (some_below_at (live c.args.past.now.config c.args.past.now.acts) c.loop-session.session c.args.count (sym c.live.ensures ∙ c.if-live.true) c.loop-session-test.true)
