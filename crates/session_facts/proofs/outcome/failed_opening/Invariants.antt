use Rattle.std.proofs.Common.{◌≡◌, length}
use Rattle.relay_model.specs.Outcome.{failed_opening}
use Rattle.session_facts.proofs.outcome.failed_opening.Given as goal

abbrev pub invariant-loop-places : goal.invariant-loop-places
invariant-loop-places l = failed_opening l.past.config l.past.acts l.places ≡ failed_opening l.past.config l.past.acts l.initial.places

abbrev pub decreases-loop-places : goal.decreases-loop-places
decreases-loop-places l = length l.places
