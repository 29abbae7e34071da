use Rattle.std.proofs.Common.{◌≡◌}
use Rattle.std.proofs.Common.{false}
use Rattle.relay_model.specs.Choices.{some_below}
use Rattle.relay_model.specs.Sessions.{live}
use Rattle.session_facts.proofs.outcome.some_lives.Given as goal

abbrev pub invariant-loop-session : goal.invariant-loop-session
invariant-loop-session l = some_below (live l.past.config l.past.acts) l.session ≡ false
