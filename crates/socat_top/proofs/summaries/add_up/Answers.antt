use Rattle.std.proofs.Common.{◌≡◌, ◌+◌, ◌-◌, sym, ap, ◌∙◌, arith, drop, length, sum}
use Rattle.socat_top.specs.Sums.{brought, delivered}
use Rattle.socat_top.proofs.OldestLemmas.{delivered-drop, length-older, sum-older}
use Rattle.socat_top.proofs.summaries.add_up.Goals as goal

pub overflow_add-bytes : goal.overflow_add-bytes
overflow_add-bytes c =
    let acts = c.args.journal.now.acts in
    let i = c.loop-i.i in
    let more = length-older acts i c.get.result.now (omega arith) c.get.ensures in
    let part = (delivered-drop (length acts - (i + 1)) acts).0 in
    let piece : length c.bytes_to_right-piece.result.now ≡ length (brought c.get.result.now) = ap length c.bytes_to_right-piece.ensures in
    omega (arith, more, part, piece, c.requires.bytes, c.loop-i.invariant.bytes)

pub sum_with-sum-requires : goal.sum_with-sum-requires
sum_with-sum-requires c =
    let acts = c.args.journal.now.acts in
    let i = c.loop-i.i in
    let more = sum-older acts i c.get.result.now (omega arith) c.get.ensures in
    let part = (delivered-drop (length acts - (i + 1)) acts).1 in
    let piece : sum c.bytes_to_right-piece.result.now ≡ sum (brought c.get.result.now) = ap sum c.bytes_to_right-piece.ensures in
    omega (arith, more, part, piece, c.requires.sum, c.loop-i.invariant.sum)

pub loop-i-preserved : goal.loop-i-preserved
loop-i-preserved c =
    let acts = c.args.journal.now.acts in
    let i = c.loop-i.i in
    record {
      bytes = ap (λ k. k + length c.bytes_to_right-piece.result.now) c.loop-i.invariant.bytes ∙ ap (λ xs. length (delivered (drop (length acts - i) acts)) + length xs) c.bytes_to_right-piece.ensures ∙ sym (length-older acts i c.get.result.now (omega arith) c.get.ensures);
      sum = c.sum_with-sum.ensures ∙ ap (λ k. k + sum c.bytes_to_right-piece.result.now) c.loop-i.invariant.sum ∙ ap (λ xs. sum (delivered (drop (length acts - i) acts)) + sum xs) c.bytes_to_right-piece.ensures ∙ sym (sum-older acts i c.get.result.now (omega arith) c.get.ensures);
    }
