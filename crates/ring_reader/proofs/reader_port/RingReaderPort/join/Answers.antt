use Rattle.std.proofs.Common.{sym, refl, ◌∙◌, rules}
use Rattle.crossbeam_queue.specs.Passes.{view}
use Rattle.ring_reader.proofs.Readings.{behind_joined, loses_given, tells_over}
use Rattle.ring_reader.proofs.reader_port.RingReaderPort.join.Goals as goal

pub returns-then-not-is_running-clause-source : goal.returns-then-not-is_running-clause-source
returns-then-not-is_running-clause-source g c =
    let i = c.self.inside in
    let so = c.self.invariant.2 in
    rw (← c.self.view_is) (λ begun. tells_over g.S.Source.left g.S.Source.faults g.S.Source.ends i.lines.value i.start.value (view i.items) (view i.words) i.held i.marked i.stage (sym c.is_running.ensures ∙ c.if-not-is_running.true) (so.taking.at_mark c.if-not-self.false).0 so.at_stage begun)

pub returns-clause-source : goal.returns-clause-source
returns-clause-source g c _ =
    let i = c.self.inside in
    let so = c.self.invariant.2.taking in
    (_, refl, rw c.finish-source.ensures.taken (loses_given (view i.items).taken i.held _ _ (so.at_mark c.if-not-self.false).0 c.finish-source.ensures.feeds.gave))

pub returns-clause-joins : goal.returns-clause-joins
returns-clause-joins g c =
    let so = c.self.invariant.2.taking in
    record {
      joined = search rules;
      still = search rules;
      unemptied = search rules;
      begun = search rules;
      ended = search rules;
      joins = search rules;
      child = search rules;
      served = search rules;
      counts = search rules;
      agrees = record {
        explained = search rules;
        behind = rw c.finish-source.ensures.taken (behind_joined _ _ _ _ _ _ _ _ c.self.inside.ended _ (so.at_mark c.if-not-self.false).0 c.finish-source.ensures.feeds (λ ended. c.finish-source.ensures.spent (so.at_end ended).1));
        finished = search rules;
      };
    }
