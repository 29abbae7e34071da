use Rattle.std.proofs.Common.{refl, ◌∙◌}
use Rattle.session_loop.proofs.DrainGoing.{runs_on, then_on, stays_on}
use Rattle.session_loop.proofs.drains.drain.Goals as goal

pub loop-pause-init : goal.loop-pause-init
loop-pause-init g c = record { runs = stays_on c.args.config.now _ _; room = refl }

pub go_on-requires-clause-runs : goal.go_on-requires-clause-runs
go_on-requires-clause-runs g c = runs_on c.args.config.now _ _ c.args.member.now _ c.requires.runs c.loop-pause.invariant.runs

pub returns-in-Some-clause-runs : goal.returns-in-Some-clause-runs
returns-in-Some-clause-runs g c = then_on c.args.config.now _ _ _ c.args.member.now _ _ c.loop-pause.invariant.runs c.go_on.ensures.runs

pub loop-pause-preserved : goal.loop-pause-preserved
loop-pause-preserved g c = record {
  runs = then_on c.args.config.now _ _ _ c.args.member.now _ _ c.loop-pause.invariant.runs c.go_on.ensures.runs;
  room = c.go_on.ensures.scratch ∙ c.loop-pause.invariant.room;
}
