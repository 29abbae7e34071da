use Rattle.std.proofs.Common.{take}
use Rattle.relay_session.proofs.Naming.{HasNamed}
use Rattle.relay_session.proofs.states.State.hear_names.Given as goal

abbrev pub invariant-loop-i : goal.invariant-loop-i
invariant-loop-i l = HasNamed (take l.i l.ready.entries) l.initial.self l.self
