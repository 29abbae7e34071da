use Rattle.std.proofs.Common.{◌≡◌, ℕ, ◌<◌, ◌≤◌, get_or, bit_and}
use Rattle.option_table.proofs.networks.keep_masked.Given as goal

abbrev pub invariant-loop-i : goal.invariant-loop-i
invariant-loop-i l = record {
  behind : (k : ℕ) → k < l.i → get_or l.octets k 0 ≡ bit_and (get_or l.initial.octets k 0) (get_or l.mask k 0);
  ahead : (k : ℕ) → l.i ≤ k → get_or l.octets k 0 ≡ get_or l.initial.octets k 0;
}
