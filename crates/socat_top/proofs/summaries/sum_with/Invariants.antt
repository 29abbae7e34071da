use Rattle.std.proofs.Common.{◌≡◌, ◌+◌, take, sum}
use Rattle.socat_top.proofs.summaries.sum_with.Given as goal

abbrev pub invariant-loop-byte : goal.invariant-loop-byte
invariant-loop-byte l = l.total ≡ l.before + sum (take l.byte-index l.bytes)
