use Rattle.std.proofs.Common.{[], arith}
use Rattle.event_loop.proofs.Cutting.{some_queued, some_idle, ends_rows, ends_paid, ends_short, ends_short_after}
use Rattle.event_loop.proofs.RowRuns.{rest_then}
use Rattle.event_loop.proofs.all_sessions.Sessions.end_rows.Goals as goal

pub end_queued-requires-clause-ending : goal.end_queued-requires-clause-ending
end_queued-requires-clause-ending g c = some_queued c.args.config.now _ c.args.self.now c.queue_all.new.self c.requires c.queue_all.ensures.same c.in-Ok.ensures.all

pub end_queued-requires-clause-lives : goal.end_queued-requires-clause-lives
end_queued-requires-clause-lives g c = c.in-Ok.ensures.lives (some_idle c.args.config.now _ c.args.self.now c.requires)

pub returns-in-Ok-clause-ends : goal.returns-in-Ok-clause-ends
returns-in-Ok-clause-ends g c = ends_rows c.args.config.now _ _ c.args.self.now c.queue_all.new.self c.end_queued.new.self _ _ _ c.queue_all.ensures.same c.in-Ok.ensures.all c.end_queued.ensures.paid c.end_queued.ensures.rest

pub returns-in-Err-clause-ends : goal.returns-in-Err-clause-ends
returns-in-Err-clause-ends g c = λ n start past f. ends_short c.args.config.now n start _ past c.args.self.now c.queue_all.new.self f c.queue_all.ensures.same

pub returns-in-Ok-clause-rest : goal.returns-in-Ok-clause-rest
returns-in-Ok-clause-rest g c = rest_then c.args.self.now c.queue_all.new.self c.end_queued.new.self c.queue_all.ensures.same.same c.end_queued.ensures.rest

pub returns-in-Err-clause-rest : goal.returns-in-Err-clause-rest
returns-in-Err-clause-rest g c = c.queue_all.ensures.same.same

pub returns-in-Ok-clause-paid : goal.returns-in-Ok-clause-paid
returns-in-Ok-clause-paid g c = ends_paid c.args.config.now _ _ c.args.self.now c.queue_all.new.self c.end_queued.new.self _ _ _ c.queue_all.ensures.same c.in-Ok.ensures.all c.end_queued.ensures.paid

pub returns-in-Err-clause-paid : goal.returns-in-Err-clause-paid
returns-in-Err-clause-paid g c = λ n start past f. record { made = []; holds = ends_short_after c.args.config.now n start _ past c.args.self.now c.queue_all.new.self f c.queue_all.ensures.same; few = omega arith }
