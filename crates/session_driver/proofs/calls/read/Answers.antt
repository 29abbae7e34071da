use Rattle.session_driver.proofs.calls.read.Goals as goal

pub read_front-requires-clause-reads : goal.read_front-requires-clause-reads
read_front-requires-clause-reads g c = rw c.trade_back.ensures.same c.requires.reads

pub returns-clause-step : goal.returns-clause-step
returns-clause-step g c = rw c.trade_back.ensures.same at c.read_front.ensures.step
