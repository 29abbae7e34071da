use Rattle.std.proofs.Common.{◌≡◌, ℕ, ◌-◌, ◌*◌, ◌<◌, get_or}
use Rattle.option_table.specs.Networks.{octet_mask}
use Rattle.option_table.proofs.networks.set_leading_bits.Given as goal

abbrev pub invariant-loop-octet : goal.invariant-loop-octet
invariant-loop-octet l = record {
  left_is : l.left ≡ l.bits - 8 * l.octet-index;
  written : (k : ℕ) → k < l.octet-index → get_or l.mask k 0 ≡ octet_mask (l.bits - 8 * k);
}
