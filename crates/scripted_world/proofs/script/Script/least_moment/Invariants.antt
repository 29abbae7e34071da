-- the least so far, and the least of what is left
use Rattle.std.proofs.Common.{◌≡◌, drop}
use Rattle.relay_model.specs.Choices.{earlier}
use Rattle.scripted_world.specs.Marks.{least_by}
use Rattle.scripted_world.specs.Scripts.{least_moment, ready_from}
use Rattle.scripted_world.proofs.script.Script.least_moment.Given as goal

abbrev pub invariant-loop-entry : goal.invariant-loop-entry
invariant-loop-entry l = earlier l.least (least_by (ready_from l.self) (drop l.entry-index l.entries)) ≡ least_moment l.self l.entries
