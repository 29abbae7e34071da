use Rattle.std.proofs.Common.{sym, ◌∙◌}
use Rattle.event_loop.proofs.BothRuns.{runs_one, runs_many}
use Rattle.event_loop.proofs.courses.LoopCourse.new.Goals as goal

pub new-requires : goal.new-requires
new-requires c = runs_many c.args.config.now c.requires (sym c.has_fork.ensures ∙ c.if-has_fork.true)

pub new-requires-else-has_fork : goal.new-requires-else-has_fork
new-requires-else-has_fork c = runs_one c.args.config.now c.requires (sym c.has_fork.ensures ∙ c.if-has_fork.false)
