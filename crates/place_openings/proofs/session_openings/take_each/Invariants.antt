use Rattle.place_openings.proofs.Taking.{Partly}
use Rattle.place_openings.proofs.session_openings.take_each.Given as goal

abbrev pub invariant-loop-opening : goal.invariant-loop-opening
invariant-loop-opening l = Partly l.step l.opening-index l.initial.openings l.openings
