use Rattle.std.proofs.Common.{◌≡◌, length, drop, sym, subst, rules}
use Rattle.std.proofs.lemmas.List.{take_at}
use Rattle.relay_model.specs.Conversions.{longest_packet}
use Rattle.socket_ports.proofs.socket.receive_packet.Goals as goal

pub returns-clause-once : goal.returns-clause-once
returns-clause-once g c =
    let front = c.receive_from.new.into in
    let size : length front ≡ longest_packet = search rules in
    (c.receive_from.result, subst (λ bytes. g.U.PacketWire.receives_from c.args.wire.now c.receive_from.new.self bytes c.receive_from.result) (sym (take_at front (drop c.from.result c.args.into.now) longest_packet size)) c.receive_from.ensures.answered, c.receive_from_answer.ensures)
