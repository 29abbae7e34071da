-- the least so far, and the least of the moments that are left
use Rattle.std.proofs.Common.{◌≡◌, drop, Some}
use Rattle.relay_model.specs.Choices.{earlier}
use Rattle.scripted_world.specs.Marks.{least_by, least_of}
use Rattle.scripted_world.proofs.marks.least_in.Given as goal

abbrev pub invariant-loop-moment : goal.invariant-loop-moment
invariant-loop-moment l = earlier l.least (least_by (λ moment. Some moment) (drop l.moment-index l.moments)) ≡ least_of l.moments
