use Rattle.std.proofs.Common.{◌≡◌}
use Rattle.std.proofs.Common.{◌≤◌}
use Rattle.relay_model.specs.Choices.{count}
use Rattle.relay_model.specs.Sessions.{live}
use Rattle.session_facts.proofs.sessions.live_count.Given as goal

abbrev pub invariant-loop-session : goal.invariant-loop-session
invariant-loop-session l = (l.living ≡ count (live l.past.config l.past.acts) l.session) × (l.living ≤ l.session)
