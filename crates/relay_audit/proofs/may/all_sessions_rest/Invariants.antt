use Rattle.std.proofs.Common.{◌≡◌}
use Rattle.std.proofs.Common.{true}
use Rattle.relay_model.specs.Choices.{each_below}
use Rattle.relay_model.specs.Audit.{session_rests}
use Rattle.relay_audit.proofs.may.all_sessions_rest.Given as goal

abbrev pub invariant-loop-session : goal.invariant-loop-session
invariant-loop-session l = each_below (session_rests l.past.config l.past.acts) l.session ≡ true
