use Rattle.std.proofs.Common.{◌≡◌, ◌≤◌, ◌-◌, ◌++◌, length, take, option_map}
use Rattle.socket_ports.proofs.port.transmit_front.Given as goal

abbrev pub invariant-loop-count : goal.invariant-loop-count
invariant-loop-count g l = record {
  bound : l.count ≤ length l.bytes;
  took : g.S.Socket.took l.socket ≡ option_map (λ all. all ++ take l.count l.bytes) (g.S.Socket.took l.fn.socket);
  gave : g.S.Socket.gave l.socket ≡ g.S.Socket.gave l.fn.socket;
  shuts : g.S.Socket.shuts l.socket ≡ g.S.Socket.shuts l.fn.socket;
}

abbrev pub decreases-loop-count : goal.decreases-loop-count
decreases-loop-count g l = length l.bytes - l.count
