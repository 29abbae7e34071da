use Rattle.real_maker.proofs.maker.RealMaker.accept_at.Goals as goal

pub returns-in-Peer-clause-kind : goal.returns-in-Peer-clause-kind
returns-in-Peer-clause-kind g c = rw c.in-Peer.is (c.real_peer.ensures.kind c.in-Peer.door)
