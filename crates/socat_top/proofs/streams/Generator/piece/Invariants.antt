use Rattle.std.proofs.Common.{◌≡◌}
use Rattle.socat_top.specs.Stream.{bytes_after, state_after}
use Rattle.socat_top.proofs.streams.Generator.piece.Given as goal

abbrev pub invariant-loop : goal.invariant-loop
invariant-loop l = record {
  state : l.self.state ≡ state_after l.counter l.fn.self.state;
  bytes : l.bytes.items ≡ bytes_after l.counter l.fn.self.state;
}
