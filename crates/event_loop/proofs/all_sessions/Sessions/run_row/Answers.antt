use Rattle.event_loop.proofs.RowRuns.{row_settles, row_absent, settled_rest, absent_rest}
use Rattle.event_loop.proofs.all_sessions.Sessions.run_row.Goals as goal

pub returns-in-Some-clause-runs : goal.returns-in-Some-clause-runs
returns-in-Some-clause-runs g c = row_settles c.args.config.now _ _ c.args.number c.args.self.now c.drain_row.new.self c.settle.new.self c.in-Some.pause c.settle.result c.in-Some.ensures.drains c.settle.ensures

pub returns-in-None-clause-runs : goal.returns-in-None-clause-runs
returns-in-None-clause-runs g c = row_absent c.args.config.now _ _ c.args.number c.args.self.now c.drain_row.new.self c.in-None.ensures.drains

pub returns-in-Some-clause-rest : goal.returns-in-Some-clause-rest
returns-in-Some-clause-rest g c = settled_rest c.args.number c.args.self.now c.drain_row.new.self c.settle.new.self c.in-Some.pause c.settle.result c.in-Some.ensures.drains.same c.settle.ensures

pub returns-in-None-clause-rest : goal.returns-in-None-clause-rest
returns-in-None-clause-rest g c = absent_rest c.args.self.now c.drain_row.new.self c.in-None.ensures.drains.2
