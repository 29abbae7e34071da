use Rattle.std.specs.FinMap.{len}
use Rattle.event_loop.specs.Turns.{Moves}
use Rattle.event_loop.specs.Looks.{AddsDue, CameInTime, OnlyNamedCame, WorksFew}
use Rattle.event_loop.proofs.all_sessions.Sessions.queue_due.Given as goal

abbrev pub invariant-loop-number : goal.invariant-loop-number
invariant-loop-number l = record {
  moves : Moves l.fn.self l.self;
  few : WorksFew 0 l.fn.self l.self;
  alone : OnlyNamedCame 0 l.fn.self l.self;
  came : CameInTime l.fn.self l.self;
  parts : AddsDue l.fn.self l.self;
}

abbrev pub decreases-loop-number : goal.decreases-loop-number
decreases-loop-number l = len l.self.timers.moments
