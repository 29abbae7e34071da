use Rattle.std.proofs.Common.{ap, ◌∙◌, arith}
use Rattle.crossbeam_queue.specs.Passes.{view}
use Rattle.ring_queue.specs.declared.roles.PassView.{PassView}
use Rattle.ring_queue.specs.declared.items.RingItem.{RingItem}
use Rattle.ring_queue.specs.Items.{is_end_mark}
use Rattle.ring_writer.proofs.Taking.{gathers_on, last_taken}
use Rattle.ring_writer.proofs.writer_thread.gather_ready.Goals as goal

pub returns-then-add-clause-taken : goal.returns-then-add-clause-taken
returns-then-add-clause-taken g c = gathers_on (view c.args.taker.now).taken (view c.loop-i.taker).taken c.in-Some.item c.args.buffer.now.items c.loop-i.buffer.items c.add.new.buffer.items (view c.take_soon.new.taker).taken (ap (λ (v : PassView RingItem). v.taken) c.in-Some.ensures.taken.0) c.add.ensures.bytes c.loop-i.invariant.taken

pub returns-then-add-clause-ended : goal.returns-then-add-clause-ended
returns-then-add-clause-ended g c = λ _. last_taken is_end_mark (view c.loop-i.taker).taken c.in-Some.item (view c.take_soon.new.taker).taken (ap (λ (v : PassView RingItem). v.taken) c.in-Some.ensures.taken.0) c.if-add.ensures.ended

pub loop-i-preserved : goal.loop-i-preserved
loop-i-preserved g c = record {
  pass = (c.take_soon.ensures.queue.0 ∙ c.loop-i.invariant.pass.0, c.take_soon.ensures.queue.2 ∙ c.loop-i.invariant.pass.1);
  takes = ap (λ (v : PassView RingItem). v.takes) c.in-Some.ensures.taken.0 ∙ c.loop-i.invariant.takes;
  room = omega (arith, c.loop-i.invariant.room, c.add.ensures.room);
  fits = omega (arith, c.loop-i.invariant.fits, c.add.ensures.length);
  taken = gathers_on (view c.args.taker.now).taken (view c.loop-i.taker).taken c.in-Some.item c.args.buffer.now.items c.loop-i.buffer.items c.add.new.buffer.items (view c.take_soon.new.taker).taken (ap (λ (v : PassView RingItem). v.taken) c.in-Some.ensures.taken.0) c.add.ensures.bytes c.loop-i.invariant.taken;
}
