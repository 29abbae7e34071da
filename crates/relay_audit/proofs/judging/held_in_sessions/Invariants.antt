use Rattle.std.proofs.Common.{◌≡◌}
use Rattle.std.proofs.Common.{◌≤◌, ◌*◌}
use Rattle.relay_audit.specs.Pasts.{held_below}
use Rattle.relay_audit.proofs.judging.held_in_sessions.Given as goal

abbrev pub invariant-loop-session : goal.invariant-loop-session
invariant-loop-session l = (l.total ≡ held_below l.past.config l.past.acts l.session) × (l.total ≤ 8 * l.session)
