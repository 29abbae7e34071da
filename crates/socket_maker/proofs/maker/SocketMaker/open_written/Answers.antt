use Rattle.socket_maker.proofs.maker.SocketMaker.open_written.Goals as goal

pub returns-clause-aims : goal.returns-clause-aims
returns-clause-aims g c = c.nameless.ensures.aims c.args.aim.now c.args.host.now c.reach_written.ensures
