use Rattle.std.proofs.Common.{rules, length, ◌≡◌, [], ◌∷◌, ◌++◌, sym, ap, ◌∙◌}
use Rattle.crossbeam_queue.specs.Passes.{view}
use Rattle.ring_queue.specs.declared.roles.PassView.{PassView}
use Rattle.ring_queue.specs.declared.items.RingItem.{RingItem}
use Rattle.ring_queue.specs.declared.items.RingItem.TheVariants as items
use Rattle.ring_writer.proofs.Putting.{chunk_told, chunk_marks, chunk_last}
use Rattle.ring_writer.proofs.writer_puts.Putter.put_chunk.Goals as goal

pub returns-in-Ok-clause-kept : goal.returns-in-Ok-clause-kept
returns-in-Ok-clause-kept g c =
    let before = (view c.args.self.now.sender).sent in
    let now = (view c.put.new.pass).sent in
    let chunk = c.chunk_of-chunk.result in
    let more : now ≡ before ++ items.Chunk chunk ∷ [] = ap (λ (v : PassView RingItem). v.sent) c.in-Ok.ensures.sent in record {
      putting = record {
        sender_of = search rules;
        sends = search rules;
        taker_of = search rules;
        takes = search rules;
        room = c.requires.can.putting.room;
        count = chunk_told before now chunk c.args.self.now.count c.saturating_add-self.result _ more c.requires.can.putting.count c.saturating_add-self.ensures (ap length c.as_slice-count.ensures.bytes);
        marked = chunk_marks before now chunk more ∙ c.requires.can.putting.marked;
        ended = chunk_last before now chunk more ∙ sym c.requires.can.unended;
      };
      lines = search rules;
      ended = search rules;
    }
