use Rattle.std.proofs.Common.{◌≡◌, take}
use Rattle.std.specs.Prelude.{if◌then◌else◌}
use Rattle.relay_model.specs.declared.places.Place.{Place}
use Rattle.relay_model.specs.Readiness.{names}
use Rattle.history_facts.specs.Tables.{placed}
use Rattle.history_facts.proofs.naming.name_all.Given as goal

abbrev pub invariant-loop-i : goal.invariant-loop-i
invariant-loop-i g l = (p : Place) → placed l.table p ≡ (if names (take l.i l.ready.entries) p l.half then l.answer else placed l.initial.table p)
