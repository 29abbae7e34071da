use Rattle.std.proofs.Common.{ap, ◌∙◌, rules}
use Rattle.std.specs.Prelude.{Some}
use Rattle.ring_writer.specs.WriterRing.{WriterLine, line_of}
use Rattle.ring_writer.specs.Writers.{WriterState, took_of}
use Rattle.ring_writer.proofs.Putting.{end_bytes}
use Rattle.ring_writer.proofs.writer.RingWriterPort.shut.Goals as goal

pub returns-then-is_open-clause-shuts : goal.returns-then-is_open-clause-shuts
returns-then-is_open-clause-shuts g c =
    let ended = c.end.ensures.line in
    let before = line_of g.K.Sink.took g.K.Sink.faults g.K.Sink.finished c.self.inside.stage in
    let now = line_of g.K.Sink.took g.K.Sink.faults g.K.Sink.finished c.end.new.self in
    record {
      told = search rules;
      gave = search rules;
      took = ap Some (end_bytes before.sent now.sent _ (ap (λ (line : WriterLine). line.sent) ended) ∙ ap took_of c.self.view_is);
      unemptied = search rules;
      begun = ap (λ (line : WriterLine). line.begun) ended ∙ ap (λ (writer : WriterState). writer.line.begun) c.self.view_is;
      ended = search rules;
      child = search rules;
      served = search rules;
      counts = search rules;
    }
