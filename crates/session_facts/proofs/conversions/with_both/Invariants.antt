use Rattle.std.proofs.Common.{◌≡◌, length}
use Rattle.std.proofs.Common.{◌++◌}
use Rattle.relay_model.specs.declared.commands.Conv.TheVariants.{Crnl}
use Rattle.relay_model.specs.Conversions.{write_converted}
use Rattle.session_facts.proofs.conversions.with_both.Given as goal

abbrev pub invariant-loop-bytes : goal.invariant-loop-bytes
invariant-loop-bytes l = l.written.items ++ write_converted Crnl l.bytes ≡ write_converted Crnl l.initial.bytes

abbrev pub decreases-loop-bytes : goal.decreases-loop-bytes
decreases-loop-bytes l = length l.bytes
