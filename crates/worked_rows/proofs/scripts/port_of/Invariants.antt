-- nothing was given yet
use Rattle.std.proofs.Common.{◌≡◌, []}
use Rattle.port_objects.specs.Scripts.{given_of}
use Rattle.worked_rows.proofs.scripts.port_of.Given as goal

abbrev pub invariant-loop-line : goal.invariant-loop-line
invariant-loop-line l = given_of l.port.script ≡ []
