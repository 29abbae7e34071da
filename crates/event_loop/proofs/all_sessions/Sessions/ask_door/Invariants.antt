use Rattle.std.specs.Prelude.{◌≡◌}
use Rattle.program_door.specs.Steps.{steps_of}
use Rattle.event_loop.specs.Looks.{LooksFew}
use Rattle.event_loop.specs.Courses.{Keeps, NoWork}
use Rattle.event_loop.proofs.DoorPays.{AskedOn}
use Rattle.event_loop.proofs.all_sessions.Sessions.ask_door.Given as goal

abbrev pub invariant-loop-asked : goal.invariant-loop-asked
invariant-loop-asked g l = record {
  keeps : Keeps l.config (g.W.World.seen l.initial.world) (g.W.World.seen l.world) l.initial.self l.self;
  idle : NoWork l.self;
  looks : LooksFew 0 l.initial.steps.ticks l.steps.ticks l.initial.self l.self;
  made_same : l.self.made ≡ l.initial.self.made;
  paid : AskedOn l.config (g.W.World.seen l.initial.world) (g.W.World.seen l.world) l.initial.self l.self l.initial.steps.ticks l.steps.ticks;
}

abbrev pub decreases-loop-asked : goal.decreases-loop-asked
decreases-loop-asked g l = steps_of l.self.door
