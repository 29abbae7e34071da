use Rattle.std.specs.Prelude.{◌-◌}
use Rattle.event_loop.specs.Loops.{SameCommand, made_of}
use Rattle.event_loop.proofs.Ending.{GoesTo}
use Rattle.event_loop.proofs.loops.Loop.finish.Given as goal

abbrev pub invariant-loop-outcome : goal.invariant-loop-outcome
invariant-loop-outcome g l = record {
  keeps : GoesTo (g.W.World.seen l.initial.world) (g.W.World.seen l.world) l.initial.self l.self;
  same : SameCommand l.initial.self l.self;
}

abbrev pub decreases-loop-outcome : goal.decreases-loop-outcome
decreases-loop-outcome g l = l.self.turns - made_of l.self
