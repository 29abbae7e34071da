use Rattle.peer_demux.proofs.hubs.receive_into.Goals as goal

pub returns-in-Packet-clause-taken : goal.returns-in-Packet-clause-taken
returns-in-Packet-clause-taken g c =
    let gives = rw c.in-Packet.is at c.receive-received.ensures.gives in
    (_, c.packet.result, c.packet.ensures.put, gives.1)
