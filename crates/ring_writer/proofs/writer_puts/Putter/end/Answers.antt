use Rattle.std.proofs.Common.{rules, ◌≡◌, ◌+◌, [], ◌∷◌, ◌++◌, ap, ◌∙◌, sym, if◌then◌else◌}
use Rattle.crossbeam_queue.specs.Passes.{view}
use Rattle.ring_queue.specs.declared.roles.PassView.{PassView}
use Rattle.ring_queue.specs.declared.items.RingItem.{RingItem}
use Rattle.ring_queue.specs.declared.items.RingItem.TheVariants as items
use Rattle.ring_queue.specs.Items.{told}
use Rattle.ring_writer.proofs.Putting.{end_bytes, end_marked, end_last}
use Rattle.ring_writer.proofs.writer_puts.Putter.end.Goals as goal

pub returns-clause-putting : goal.returns-clause-putting
returns-clause-putting g c =
    let before = (view c.args.self.now.sender).sent in
    let now = (view c.send.new.pass).sent in
    let more : now ≡ before ++ items.End c.args.self.now.count ∷ [] = ap (λ (v : PassView RingItem). v.sent) c.send.ensures.sent in record {
      sender_of = search rules;
      sends = search rules;
      taker_of = c.requires.putting.taker_of;
      takes = c.requires.putting.takes;
      room = c.requires.putting.room;
      count = c.requires.putting.count ∙ ap told (sym (end_bytes before now c.args.self.now.count more));
      marked = end_marked before now c.args.self.now.count more ∙ ap (λ n. n + 1) (c.requires.putting.marked ∙ ap (λ b. if b then 1 else 0) c.requires.unended);
      ended = end_last before now c.args.self.now.count more;
    }
