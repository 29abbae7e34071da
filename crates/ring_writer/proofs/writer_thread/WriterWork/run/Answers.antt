use Rattle.std.proofs.Common.{refl, ap, ◌∙◌}
use Rattle.ring_queue.specs.declared.roles.PassView.{PassView}
use Rattle.crossbeam_queue.specs.Passes.{Pass, view}
use Rattle.ring_queue.specs.declared.items.RingItem.{RingItem}
use Rattle.ring_queue.specs.Items.{is_end_mark, last_is}
use Rattle.ring_writer.proofs.Truth.{ends_true}
use Rattle.ring_writer.proofs.writer_thread.WriterWork.run.Goals as goal

pub returns-in-Ended : goal.returns-in-Ended
returns-in-Ended g c =
    let took = g.K.Sink.took in let faults = g.K.Sink.faults in let begun = c.args.self.outlet.sink in let was = c.loop.invariant in
    let lines = c.finish.ensures.kept.1 ∙ c.turn.ensures.lines ∙ was.lines in
    ends_true took faults g.K.Sink.finished c.args.self.lines.value begun c.finish.new.self c.into_done.result (λ i. (lines i).value) c.finish.ensures.can
    (ap (λ (taker : Pass RingItem (PassView RingItem)). last_is is_end_mark (view taker).taken) c.finish.ensures.kept.0 ∙ c.in-Ended.ensures.ended refl)
    (c.finish.ensures.keeps (took begun) (faults begun) (c.turn.ensures.keeps (took begun) (faults begun) was.true_to_sink)) c.finish.ensures.finished c.into_done.ensures

pub loop-preserved : goal.loop-preserved
loop-preserved g c = let begun = c.args.self.outlet.sink in record {
  can = tt;
  finite = tt;
  work = c.turn.ensures.can;
  true_to_sink = c.turn.ensures.keeps (g.K.Sink.took begun) (g.K.Sink.faults begun) c.loop.invariant.true_to_sink;
  lines = c.turn.ensures.lines ∙ c.loop.invariant.lines;
}
