use Rattle.std.proofs.Common.{◌≡◌, ◌+◌, ◌*◌, ◌≤◌, ◌++◌, length, take}
use Rattle.line_ends.specs.Converted.{converted}
use Rattle.line_ends.proofs.convert.Given as goal

abbrev pub invariant-loop-at : goal.invariant-loop-at
invariant-loop-at l = record {
  front : take l.filled l.out ++ converted l.how l.rest ≡ converted l.how l.block;
  room : l.filled + 2 * length l.rest ≤ 2 * length l.block;
}

abbrev pub decreases-loop-at : goal.decreases-loop-at
decreases-loop-at l = length l.rest
