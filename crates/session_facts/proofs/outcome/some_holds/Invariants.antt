use Rattle.std.proofs.Common.{◌≡◌}
use Rattle.std.proofs.Common.{false}
use Rattle.relay_model.specs.Choices.{some_below}
use Rattle.relay_model.specs.Sessions.{holds}
use Rattle.session_facts.proofs.outcome.some_holds.Given as goal

abbrev pub invariant-loop-session : goal.invariant-loop-session
invariant-loop-session l = some_below (holds l.past.config l.past.acts) l.session ≡ false
