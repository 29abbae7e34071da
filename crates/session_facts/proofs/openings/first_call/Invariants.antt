use Rattle.std.proofs.Common.{◌≡◌, length}
use Rattle.relay_model.specs.Openings.{first_call}
use Rattle.session_facts.proofs.openings.first_call.Given as goal

abbrev pub invariant-loop-places : goal.invariant-loop-places
invariant-loop-places l = first_call l.past.config l.past.acts l.places ≡ first_call l.past.config l.past.acts l.initial.places

abbrev pub decreases-loop-places : goal.decreases-loop-places
decreases-loop-places l = length l.places
