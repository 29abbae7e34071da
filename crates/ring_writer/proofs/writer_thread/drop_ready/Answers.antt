use Rattle.std.proofs.Common.{◌+◌, ap, ◌∙◌, arith}
use Rattle.crossbeam_queue.specs.Passes.{view}
use Rattle.ring_queue.specs.declared.roles.PassView.{PassView}
use Rattle.ring_queue.specs.declared.items.RingItem.{RingItem}
use Rattle.ring_queue.specs.Items.{is_end_mark}
use Rattle.ring_writer.proofs.Taking.{drops_on, few_dropped, last_taken}
use Rattle.ring_writer.proofs.writer_thread.drop_ready.Goals as goal

pub returns-then-take_item-clause-taken : goal.returns-then-take_item-clause-taken
returns-then-take_item-clause-taken g c = few_dropped (view c.args.taker.now).taken (view c.take.new.pass).taken (c.loop-i.i + 1) (omega arith)
    (drops_on (view c.args.taker.now).taken (view c.loop-i.taker).taken c.in-Some.item (view c.take.new.pass).taken c.loop-i.i (ap (λ (v : PassView RingItem). v.taken) c.in-Some.ensures.taken.0) c.in-Some.ensures.taken.1 c.loop-i.invariant.taken)

pub returns-then-take_item-clause-ended : goal.returns-then-take_item-clause-ended
returns-then-take_item-clause-ended g c = λ _. last_taken is_end_mark (view c.loop-i.taker).taken c.in-Some.item (view c.take.new.pass).taken (ap (λ (v : PassView RingItem). v.taken) c.in-Some.ensures.taken.0) c.if-take_item.ensures

pub loop-i-preserved : goal.loop-i-preserved
loop-i-preserved g c = record {
  pass = (c.take.ensures.queue.0 ∙ c.loop-i.invariant.pass.0, c.take.ensures.queue.2 ∙ c.loop-i.invariant.pass.1);
  takes = ap (λ (v : PassView RingItem). v.takes) c.in-Some.ensures.taken.0 ∙ c.loop-i.invariant.takes;
  taken = drops_on (view c.args.taker.now).taken (view c.loop-i.taker).taken c.in-Some.item (view c.take.new.pass).taken c.loop-i.i (ap (λ (v : PassView RingItem). v.taken) c.in-Some.ensures.taken.0) c.in-Some.ensures.taken.1 c.loop-i.invariant.taken;
}
