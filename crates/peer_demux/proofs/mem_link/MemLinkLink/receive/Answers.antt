use Rattle.std.proofs.Common.{arith}
use Rattle.peer_demux.proofs.Given.{fit_at, used}
use Rattle.peer_demux.proofs.mem_link.MemLinkLink.receive.Goals as goal

pub item_answer-received-requires-clause-fit : goal.item_answer-received-requires-clause-fit
item_answer-received-requires-clause-fit c =
    let held = c.self.invariant in
    fit_at c.self.inside.items.items c.self.inside.next c.index.result.now held.0 (omega (arith, held.1, c.if-self-len.false, c.len.ensures)) c.index.ensures

pub returns-in-Packet-clause-gives : goal.returns-in-Packet-clause-gives
returns-in-Packet-clause-gives c =
    let held = c.self.invariant in
    rw (← c.self.view_is) (used _ _ _ _ _ held.0 (omega (arith, held.1, c.if-self-len.false, c.len.ensures)) c.index.ensures c.item_answer-received.ensures)

pub returns-in-NotYet-clause-gives : goal.returns-in-NotYet-clause-gives
returns-in-NotYet-clause-gives c =
    let held = c.self.invariant in
    rw (← c.self.view_is) (used _ _ _ _ _ held.0 (omega (arith, held.1, c.if-self-len.false, c.len.ensures)) c.index.ensures c.item_answer-received.ensures)

pub returns-in-Failed-clause-gives : goal.returns-in-Failed-clause-gives
returns-in-Failed-clause-gives c =
    let held = c.self.invariant in
    rw (← c.self.view_is) (used _ _ _ _ _ held.0 (omega (arith, held.1, c.if-self-len.false, c.len.ensures)) c.index.ensures c.item_answer-received.ensures)
