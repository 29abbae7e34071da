use Rattle.std.proofs.Common.{arith}
use Rattle.std.proofs.lemmas.List.{length-append}
use Rattle.port_objects.specs.declared.scripts.PortItem.{PortItem}
use Rattle.port_objects.proofs.ScriptSteps.{filled_push, within_push, given_push}
use Rattle.port_objects.proofs.scripts.PortScript.push.Goals as goal

pub invariant_of-self-2 : goal.invariant_of-self-2
invariant_of-self-2 c =
    let held = c.self.invariant in
    rw c.in_ok-push.ensures.items (filled_push _ _ held.0 c.requires, omega (arith, held.1, length-append {A = PortItem}), within_push _ _ _ _ held.1 held.2 c.requires)

pub returns-clause-given : goal.returns-clause-given
returns-clause-given c =
    let held = c.self.invariant in
    rw (c.in_ok-push.ensures.items, ← c.self.view_is) (given_push _ _ _ _ held.1 held.2)
