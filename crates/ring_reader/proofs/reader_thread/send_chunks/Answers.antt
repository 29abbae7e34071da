use Rattle.std.proofs.Common.{rules, take, length, length-drop, ap, ◌∙◌, arith}
use Rattle.crossbeam_queue.specs.Passes.{view}
use Rattle.ring_queue.specs.declared.roles.PassView.{PassView}
use Rattle.ring_queue.specs.declared.items.RingItem.{RingItem}
use Rattle.ring_queue.proofs.ItemLists.{chunk_more}
use Rattle.ring_reader.proofs.reader_thread.send_chunks.Goals as goal

pub loop-at-preserved : goal.loop-at-preserved
loop-at-preserved g c =
    let chunk = c.chunk_of-chunk.result in
    let rest = c.split_at.ensures.back in
    let sent = ap (λ (v : PassView RingItem). v.sent) (c.send_item.ensures.sent c.if-not-send_item.false) in
    record {
      queue = search rules;
      looks = search rules;
      sent = rw c.as_slice-count.ensures.bytes (chunk_more (view c.args.pass.now).sent (view c.loop-at.pass).sent (view c.send_item.new.pass).sent c.args.bytes.now chunk c.loop-at.at c.loop-at.invariant.sent sent (c.chunk_of-chunk.ensures.front ∙ ap (take (length chunk)) rest));
      within = omega (arith, c.chunk_of-chunk.ensures.bounds.1, ap length rest, length-drop c.loop-at.at c.args.bytes.now, ap length c.as_slice-count.ensures.bytes, c.loop-at.invariant.within);
    }
