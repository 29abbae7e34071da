use Rattle.std.proofs.Common.{◌∙◌}
use Rattle.peer_demux.proofs.Absorbed.{risen_more, taken_more}
use Rattle.peer_demux.proofs.hubs.Hub.fill.Goals as goal

pub loop-preserved : goal.loop-preserved
loop-preserved g c =
    let had = c.loop.invariant in
    let one = rw c.in-Packet.is at c.receive_one.ensures.taken in
    record {
      taken = taken_more _ _ _ _ _ _ c.loop.counter c.in-Packet.from c.in-Packet.len had.taken one;
      lives = λ row live. c.receive_one.ensures.lives row (had.lives row live);
      left_off = c.receive_one.ensures.left_off ∙ had.left_off;
      faults = (rw c.in-Packet.is at c.receive_one.ensures.faults) ∙ had.faults;
      stalls = (rw c.in-Packet.is at c.receive_one.ensures.stalls) ∙ had.stalls;
      packets = risen_more c.loop.counter (g.L.Link.packets c.args.self.now.link) _ _ had.packets (rw c.in-Packet.is at c.receive_one.ensures.packets);
      sent = c.receive_one.ensures.sent ∙ had.sent;
    }

pub returns-clause-lives : goal.returns-clause-lives
returns-clause-lives g c = λ row live. rw (← c.self-2.view_is) at (c.loop.invariant.lives row live)
