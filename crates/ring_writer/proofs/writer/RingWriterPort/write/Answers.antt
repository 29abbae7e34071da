use Rattle.std.proofs.Common.{◌++◌, [], ◌∷◌, take, sym, ap, refl, ◌∙◌, rules}
use Rattle.std.specs.Prelude.{Some}
use Rattle.ring_queue.specs.declared.items.RingItem.TheVariants as items
use Rattle.ring_queue.specs.Items.{bytes_of}
use Rattle.ring_writer.specs.WriterRing.{line_of, is_open}
use Rattle.ring_writer.specs.Writers.{WriterState, took_of}
use Rattle.ring_queue.proofs.ItemLists.{bytes_snoc}
use Rattle.ring_writer.proofs.Servings.{called_chunk}
use Rattle.ring_writer.proofs.writer.RingWriterPort.write.Goals as goal

pub returns-in-Took-clause-writes : goal.returns-in-Took-clause-writes
returns-in-Took-clause-writes g c =
    let front = take c.in-Took.count c.args.bytes.now in
    let puts = c.in-Took.ensures.writes.0 in
    let sent = (line_of g.K.Sink.took g.K.Sink.faults g.K.Sink.finished c.self.inside.stage).sent in
    record {
      accepts = (
        puts.0,
        puts.1,
        ap Some (ap bytes_of puts.3 ∙ bytes_snoc sent (items.Chunk front) ∙ ap (λ before. took_of before ++ front) c.self.view_is),
      );
      gave = search rules;
      unshut = search rules;
      unemptied = search rules;
      begun = search rules;
      ended = search rules;
      child = search rules;
      served = (
        _,
        refl,
        called_chunk c.args.self.now.line (line_of g.K.Sink.took g.K.Sink.faults g.K.Sink.finished c.put.new.self) c.args.self.now.tally.misuses c.self.inside.tally.misuses front (sym (ap (λ (writer : WriterState). is_open writer.line) c.self.view_is) ∙ sym c.is_open.ensures ∙ c.if-not-is_open.false) (puts.3 ∙ ap (λ (writer : WriterState). writer.line.sent ++ items.Chunk front ∷ []) c.self.view_is) (ap (λ (writer : WriterState). writer.tally.misuses) c.self.view_is),
      );
      counts = search rules;
    }
