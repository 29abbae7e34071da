use Rattle.std.proofs.Common.{ℕ, ap, ◌∙◌, arith}
use Rattle.circular_buffer.specs.Buffer.{Buffer}
use Rattle.relay_buffer.proofs.StoreLemmas.{block_dropped, ring_dropped}
use Rattle.relay_buffer.proofs.stream_stores.StreamStore.drop_first.Goals as goal

pub returns-then-count-in_block-clause-bytes : goal.returns-then-count-in_block-clause-bytes
returns-then-count-in_block-clause-bytes c =
    let old = c.args.self.now in block_dropped old.block.items old.ring.items old.from old.to c.args.count old.within (omega arith)

pub returns-else-count-in_block-clause-bytes : goal.returns-else-count-in_block-clause-bytes
returns-else-count-in_block-clause-bytes c =
    let old = c.args.self.now in
    ap (λ (ring : Buffer ℕ). ring.items) c.drop_from_ring.ensures
    ∙ ring_dropped old.block.items old.ring.items old.from old.to c.args.count old.within (omega arith)
