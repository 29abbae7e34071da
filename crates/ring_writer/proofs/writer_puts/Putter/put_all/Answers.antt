use Rattle.std.proofs.Common.{◌∙◌, ap, length, length-drop, arith}
use Rattle.crossbeam_queue.specs.Passes.{view}
use Rattle.ring_writer.proofs.Putting.{front_more}
use Rattle.ring_writer.proofs.writer_puts.Putter.put_all.Goals as goal

pub loop-count-preserved : goal.loop-count-preserved
loop-count-preserved g c =
    let was = c.loop-count.invariant in
    let more = c.in-Took.ensures.put in
    let rest = c.split_at.ensures.back in record {
      putting = c.put_waiting.ensures.kept.putting;
      lines = c.put_waiting.ensures.kept.lines ∙ was.lines;
      ended = c.put_waiting.ensures.kept.ended ∙ was.ended;
      bound = omega (arith, was.bound, more.1, ap length rest, length-drop c.loop-count.count c.args.bytes.now);
      put = front_more (view c.args.self.now.sender).sent (view c.loop-count.self.sender).sent (view c.put_waiting.new.self.sender).sent c.args.bytes.now c.split_at.result.1.now c.loop-count.count c.in-Took.more was.put more.1 rest more.3;
      marks = c.in-Took.ensures.marks ∙ was.marks;
    }
