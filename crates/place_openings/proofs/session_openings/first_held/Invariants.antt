use Rattle.std.proofs.Common.{◌≡◌, length}
use Rattle.place_openings.specs.Queries.{first_of, held_by}
use Rattle.place_openings.proofs.session_openings.first_held.Given as goal

abbrev pub invariant-loop-openings : goal.invariant-loop-openings
invariant-loop-openings l = first_of held_by l.openings ≡ first_of held_by l.initial.openings

abbrev pub decreases-loop-openings : goal.decreases-loop-openings
decreases-loop-openings l = length l.openings
