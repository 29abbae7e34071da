use Rattle.std.proofs.Common.{◌≡◌, length}
use Rattle.place_openings.specs.Queries.{first_unready}
use Rattle.place_openings.proofs.summaries.first_unready.Given as goal

abbrev pub invariant-loop-openings : goal.invariant-loop-openings
invariant-loop-openings l = first_unready l.openings ≡ first_unready l.initial.openings

abbrev pub decreases-loop-openings : goal.decreases-loop-openings
decreases-loop-openings l = length l.openings
