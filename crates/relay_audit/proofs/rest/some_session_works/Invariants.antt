use Rattle.std.proofs.Common.{◌≡◌}
use Rattle.std.proofs.Common.{false}
use Rattle.relay_model.specs.Choices.{some_below}
use Rattle.relay_model.specs.Rest.{session_work}
use Rattle.relay_audit.proofs.rest.some_session_works.Given as goal

abbrev pub invariant-loop-session : goal.invariant-loop-session
invariant-loop-session l = some_below (session_work l.past.config l.past.acts) l.session ≡ false
