use Rattle.std.specs.Prelude.{length}
use Rattle.event_loop.specs.Courses.{SameRest}
use Rattle.event_loop.specs.Endings.{WorkLives}
use Rattle.event_loop.proofs.Cutting.{EndsOn}
use Rattle.event_loop.proofs.all_sessions.Sessions.end_queued.Given as goal

abbrev pub invariant-loop-number : goal.invariant-loop-number
invariant-loop-number g l = record {
  ends : EndsOn l.config (g.W.World.seen l.initial.world) (g.W.World.seen l.world) l.initial.steps.ticks l.steps.ticks l.initial.self l.self;
  lives : WorkLives l.self;
  same : SameRest l.initial.self l.self;
}

abbrev pub decreases-loop-number : goal.decreases-loop-number
decreases-loop-number g l = length l.self.work.items
