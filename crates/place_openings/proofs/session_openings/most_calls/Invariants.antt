use Rattle.std.proofs.Common.{◌≡◌, ◌+◌, ◌≤◌, length}
use Rattle.place_openings.specs.Steps.{most_in}
use Rattle.place_openings.proofs.session_openings.most_calls.Given as goal

abbrev pub invariant-loop-openings : goal.invariant-loop-openings
invariant-loop-openings l = (l.calls + most_in l.openings ≡ most_in l.initial.openings) × (most_in l.initial.openings ≤ 28)

abbrev pub decreases-loop-openings : goal.decreases-loop-openings
decreases-loop-openings l = length l.openings
