use Rattle.std.proofs.Common.{◌≡◌}
use Rattle.port_objects.specs.Scripts.{given_of}
use Rattle.port_trials.proofs.memory.add_items.Given as goal

-- nothing was given or taken meanwhile
abbrev pub invariant-loop : goal.invariant-loop
invariant-loop l = (given_of l.port.script ≡ given_of l.fn.port.script) × (l.port.intake ≡ l.fn.port.intake)
