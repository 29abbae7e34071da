use Rattle.std.proofs.Common.{ap}
use Rattle.crossbeam_queue.specs.Passes.{view}
use Rattle.ring_queue.specs.declared.roles.PassView.{PassView}
use Rattle.ring_queue.specs.declared.items.RingItem.{RingItem}
use Rattle.ring_queue.specs.Items.{bytes_of, is_end_mark}
use Rattle.ring_writer.proofs.Taking.{gathers_first, last_taken}
use Rattle.ring_writer.proofs.writer_thread.gather.Goals as goal

pub returns-then-add-clause-taken : goal.returns-then-add-clause-taken
returns-then-add-clause-taken g c = gathers_first (view c.args.taker.now).taken c.in-Some.first (view c.receive.new.pass).taken c.clear.new.self.items c.add.new.buffer.items (ap (λ (v : PassView RingItem). v.taken) c.in-Some.ensures.taken.0) c.clear.ensures.items c.add.ensures.bytes

pub returns-then-add-clause-ended : goal.returns-then-add-clause-ended
returns-then-add-clause-ended g c = λ _. last_taken is_end_mark (view c.args.taker.now).taken c.in-Some.first (view c.receive.new.pass).taken (ap (λ (v : PassView RingItem). v.taken) c.in-Some.ensures.taken.0) c.if-add.ensures.ended

pub returns-clause-taken : goal.returns-clause-taken
returns-clause-taken g c = c.gather_ready.ensures.taken (bytes_of (view c.args.taker.now).taken) (gathers_first (view c.args.taker.now).taken c.in-Some.first (view c.receive.new.pass).taken c.clear.new.self.items c.add.new.buffer.items (ap (λ (v : PassView RingItem). v.taken) c.in-Some.ensures.taken.0) c.clear.ensures.items c.add.ensures.bytes)
