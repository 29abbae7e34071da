-- what is named among the entries that are left is named at all
use Rattle.std.proofs.Common.{◌≡◌, drop}
use Rattle.relay_model.specs.Readiness.{names}
use Rattle.scripted_world.proofs.looking.is_named.Given as goal

abbrev pub invariant-loop-i : goal.invariant-loop-i
invariant-loop-i l = names (drop l.i l.ready.entries) l.entry.place l.entry.half ≡ names l.ready.entries l.entry.place l.entry.half
