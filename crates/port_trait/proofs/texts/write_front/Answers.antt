use Rattle.std.proofs.Common.{ℕ, arith}
use Rattle.std.proofs.lemmas.List.{length-take, length-drop}
use Rattle.port_trait.proofs.Contents.{adds_more, holds_more}
use Rattle.port_trait.proofs.texts.write_front.Goals as goal

pub loop-count-preserved : goal.loop-count-preserved
loop-count-preserved g c = record {
  bound = omega (arith, c.in-Took.ensures.takes.1, c.loop-count-test.true, length-take {A = ℕ}, length-drop {A = ℕ});
  taken = adds_more (g.K.Sink.took c.args.sink.now) (g.K.Sink.took c.loop-count.sink) (g.K.Sink.took c.write.new.self) c.args.bytes.now c.loop-count.count c.in-Took.more c.loop-count.invariant.taken (c.in-Took.ensures.takes.2);
  held = holds_more (g.K.Sink.holds c.args.sink.now) (g.K.Sink.holds c.loop-count.sink) (g.K.Sink.holds c.write.new.self) c.args.bytes.now c.loop-count.count c.in-Took.more c.loop-count.invariant.held c.in-Took.ensures.holds;
  grew = omega (arith, c.loop-count.invariant.grew, c.in-Took.ensures.faults.grew);
}
