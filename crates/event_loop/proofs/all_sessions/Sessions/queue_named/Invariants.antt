use Rattle.std.specs.Prelude.{take, length, ◌+◌, ◌≤◌}
use Rattle.event_loop.specs.Looks.{CameByName}
use Rattle.event_loop.specs.Turns.{QueuesNamed}
use Rattle.event_loop.proofs.all_sessions.Sessions.queue_named.Given as goal

abbrev pub invariant-loop-i : goal.invariant-loop-i
invariant-loop-i l = record {
  queued : QueuesNamed l.config (take l.i l.fn.self.ready.entries) l.fn.self l.self;
  few : length l.self.work.items ≤ length l.fn.self.work.items + l.i;
  came : CameByName l.config (take l.i l.fn.self.ready.entries) l.fn.self l.self;
}
