use Rattle.std.proofs.Common.{◌≡◌, take, slice_range, ap, ◌∙◌}
use Rattle.relay_buffer.proofs.StoreLemmas.{all_traded}
use Rattle.relay_buffer.proofs.stream_stores.StreamStore.trade.Goals as goal

pub returns-clause-bytes : goal.returns-clause-bytes
returns-clause-bytes c =
    let old = c.args.self.now in
    let same : c.swap.new.x.items ≡ c.args.block.now.items = cc in
    all_traded c.swap.new.x.items (slice_range old.block.items old.from old.to) old.ring.items c.args.count c.requires.may.empty ∙ ap (take c.args.count) same
