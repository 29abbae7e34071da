use Rattle.std.proofs.Common.{◌≡◌}
use Rattle.socket_kinds.specs.Datagrams.{Drops}
use Rattle.socket_kinds.proofs.datagram.DatagramSocket.fetch_past_others.Given as goal

-- one datagram of another was dropped at each turn
abbrev pub invariant-loop : goal.invariant-loop
invariant-loop g l =
    Drops g.U.PacketWire.receives g.U.PacketWire.receives_from l.fn.self.partner l.counter l.fn.self.wire l.self.wire
    × (l.self.partner ≡ l.fn.self.partner)
    × (l.self.single ≡ l.fn.self.single)
