use Rattle.real_maker.proofs.maker.RealMaker.open_socket.Goals as goal

pub returns-clause-kind : goal.returns-clause-kind
returns-clause-kind g c = c.of_socket.ensures.opened c.args.single.now.target c.make.ensures.sort
