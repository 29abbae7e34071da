use Rattle.std.proofs.Common.{◌≡◌, true}
use Rattle.crossbeam_queue.specs.Passes.{view, IsPassOf}
use Rattle.ring_reader.specs.Feeding.{Works}
use Rattle.ring_reader.proofs.reader_thread.Feeder.feed.Given as goal

abbrev pub invariant-loop : goal.invariant-loop
invariant-loop g l = record {
  lines : l.feeder.lines.value ≡ l.fn.self.lines.value;
  start : l.start.value ≡ l.fn.self.source.source;
  begun : l.feeder.source.begun ≡ true;
  queues : IsPassOf l.feeder.lines.value.items l.feeder.items × IsPassOf l.feeder.lines.value.back l.feeder.words;
  works : Works (g.S.Source.left l.start.value) (g.S.Source.left l.feeder.source.source) (g.S.Source.faults l.start.value) (g.S.Source.faults l.feeder.source.source) (g.S.Source.ends l.start.value) (g.S.Source.ends l.feeder.source.source) l.feeder.count 0 (view l.feeder.items) (view l.feeder.words);
}
