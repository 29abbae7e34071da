use Rattle.std.proofs.Common.{arith, length, get_or, bit_and}
use Rattle.std.proofs.lemmas.List.FromFn.{fill_by_all}
use Rattle.option_table.specs.Networks.{masked}
use Rattle.option_table.proofs.networks.keep_masked.Goals as goal

pub returns : goal.returns
unfolding masked
returns c = fill_by_all (λ k. bit_and (get_or c.args.octets.now k 0) (get_or c.args.mask.now k 0)) c.loop-i.octets (length c.args.octets.now) 0 (omega arith) (λ k lt. c.loop-i.invariant.behind k (omega arith))
