use Rattle.std.proofs.Common.{ℕ, ◌∙◌, arith}
use Rattle.std.proofs.lemmas.List.{length-take, length-drop}
use Rattle.socket_ports.proofs.Fronts.{adds_more}
use Rattle.socket_ports.proofs.port.transmit_front.Goals as goal

pub loop-count-preserved : goal.loop-count-preserved
loop-count-preserved g c = record {
  bound = omega (arith, c.in-Took.ensures.accepts.1, c.loop-count-test.true, length-take {A = ℕ}, length-drop {A = ℕ});
  took = adds_more (g.S.Socket.took c.args.socket.now) (g.S.Socket.took c.loop-count.socket) (g.S.Socket.took c.transmit.new.self) c.args.bytes.now c.loop-count.count c.in-Took.more c.loop-count.invariant.took (c.in-Took.ensures.accepts.2);
  gave = c.in-Took.ensures.kept.0 ∙ c.loop-count.invariant.gave;
  shuts = c.in-Took.ensures.kept.1 ∙ c.loop-count.invariant.shuts;
}
