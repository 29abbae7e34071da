use Rattle.std.proofs.Common.{◌≡◌}
use Rattle.relay_model.specs.Choices.{least_below}
use Rattle.relay_model.specs.Rest.{session_moment}
use Rattle.relay_audit.proofs.rest.least_session_moment.Given as goal

abbrev pub invariant-loop-session : goal.invariant-loop-session
invariant-loop-session l = l.least ≡ least_below (session_moment l.past.config l.past.acts) l.session
