use Rattle.std.proofs.Common.{◌≡◌, ap, ◌∙◌, sym, if◌then◌else◌}
use Rattle.crossbeam_queue.specs.Passes.{view}
use Rattle.ring_queue.specs.declared.roles.PassView.{PassView}
use Rattle.ring_queue.specs.declared.items.RingItem.{RingItem}
use Rattle.ring_queue.specs.declared.words.SinkFault.{SinkFault}
use Rattle.ring_queue.specs.Items.{is_end_mark, last_is}
use Rattle.ring_writer.proofs.BackLemmas.{all_taken, hears_less}
use Rattle.ring_writer.proofs.writer_stages.hand_back.Goals as goal

pub returns-clause-back : goal.returns-clause-back
returns-clause-back g c =
    let sent = (view c.args.putter.sender).sent in
    let taken = (view c.args.done.taker).taken in
    let told = (view c.args.done.sender).sent in
    let heard = (view c.args.putter.taker).taken in
    let items = c.settle-items.ensures.view in
    let marks = c.settle-marks.ensures.view in
    let one = c.requires.putting.marked ∙ ap (λ b. if b then 1 else 0) c.requires.over in
    let ends = c.requires.putting.ended ∙ c.requires.over in
    let same : sent ≡ taken = all_taken sent taken c.settle-items.ensures.order.0 c.settle-items.ensures.order.1 one ends c.requires.done.ended in
    record {
      all = ap (λ (v : PassView RingItem). v.sent) items ∙ same ∙ sym (ap (λ (v : PassView RingItem). v.taken) items);
      ended = ap (λ (v : PassView RingItem). last_is is_end_mark v.sent) items ∙ ends;
      true_to_sink = hears_less g.K.Sink.took g.K.Sink.faults (g.K.Sink.took c.args.begun.value) (g.K.Sink.faults c.args.begun.value) c.args.done.outlet taken (view c.settle-items.result).taken told heard (view c.settle-marks.result).taken c.settle-marks.ensures.order.0
          (ap (λ (v : PassView RingItem). v.taken) items) c.settle-marks.ensures.order.1 (ap (λ (v : PassView SinkFault). v.taken) marks) c.requires.done.true_to_sink;
      over = c.requires.done.over;
    }
