use Rattle.std.specs.Prelude.{take, ◌+◌, ◌≤◌}
use Rattle.event_loop.specs.Turns.{NamedHeard}
use Rattle.event_loop.proofs.all_sessions.Sessions.hear_named.Given as goal

abbrev pub invariant-loop-i : goal.invariant-loop-i
invariant-loop-i g l = record {
  heard : NamedHeard l.config (take l.i l.fn.self.ready.entries) l.fn.self l.self;
  looks : l.steps.ticks ≤ l.fn.steps.ticks + l.i;
}
