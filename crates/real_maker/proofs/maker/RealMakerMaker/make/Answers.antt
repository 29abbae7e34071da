use Rattle.real_maker.proofs.maker.RealMakerMaker.make.Goals as goal

pub returns-clause-kind : goal.returns-clause-kind
returns-clause-kind g c = c.made_opening-making.ensures.opened c.args.single.now.target c.open-opened.ensures.kind
