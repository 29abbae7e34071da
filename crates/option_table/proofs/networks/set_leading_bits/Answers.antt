use Rattle.std.proofs.Common.{◌-◌, ◌*◌, arith, length}
use Rattle.std.proofs.lemmas.List.FromFn.{fill_by_all}
use Rattle.option_table.specs.Networks.{octet_mask, leading_mask}
use Rattle.option_table.proofs.networks.set_leading_bits.Goals as goal

pub returns : goal.returns
unfolding leading_mask
returns c = fill_by_all (λ k. octet_mask (c.args.bits - 8 * k)) c.loop-octet.mask (length c.args.mask.now) 0 (omega arith) (λ k lt. c.loop-octet.invariant.written k (omega arith))
