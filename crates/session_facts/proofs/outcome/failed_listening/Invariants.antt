use Rattle.std.proofs.Common.{◌≡◌, length}
use Rattle.relay_model.specs.Outcome.{failed_listening}
use Rattle.session_facts.proofs.outcome.failed_listening.Given as goal

abbrev pub invariant-loop-doors : goal.invariant-loop-doors
invariant-loop-doors l = failed_listening l.past.config l.past.acts l.doors ≡ failed_listening l.past.config l.past.acts l.initial.doors

abbrev pub decreases-loop-doors : goal.decreases-loop-doors
decreases-loop-doors l = length l.doors
