use Rattle.event_loop.specs.Loops.{LoopSomewhere}
use Rattle.run_trials.proofs.looks.count_looks.Given as goal

abbrev pub invariant-loop : goal.invariant-loop
invariant-loop g l = LoopSomewhere (g.W.World.seen l.world) l.whole
