use Rattle.real_maker.proofs.maker.RealMakerMaker.listen.Goals as goal

pub returns-clause-kind : goal.returns-clause-kind
returns-clause-kind g c = c.made_door-making.ensures.door c.args.single.now c.open_door-opened.ensures.kind
