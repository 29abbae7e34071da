use Rattle.std.proofs.Common.{refl}
use Rattle.event_loop.proofs.Ending.{begins_loop}
use Rattle.event_loop.proofs.loops.Loop.with_turns.Goals as goal

pub returns-in-Ok : goal.returns-in-Ok
returns-in-Ok c = begins_loop c.args.config.now c.args.turns _ c.in_ok-own.ensures refl c.in-Ok.ensures
