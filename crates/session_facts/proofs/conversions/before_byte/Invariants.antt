use Rattle.std.proofs.Common.{◌≡◌, length}
use Rattle.std.proofs.Common.{◌+◌, ◌==◌}
use Rattle.std.specs.List.{position_or_len}
use Rattle.session_facts.proofs.conversions.before_byte.Given as goal

abbrev pub invariant-loop-rest : goal.invariant-loop-rest
invariant-loop-rest l = (l.count + position_or_len (λ b. b == l.byte) l.rest ≡ position_or_len (λ b. b == l.byte) l.bytes) × (l.count + length l.rest ≡ length l.bytes)

abbrev pub decreases-loop-rest : goal.decreases-loop-rest
decreases-loop-rest l = length l.rest
