use Rattle.std.proofs.Common.{refl}
use Rattle.exit_status.specs.Lines.{line}
use Rattle.socat_top.proofs.Endings.{memory_tail}
use Rattle.socat_top.proofs.notes.conclude.Goals as goal

pub returns-in-Err-clause-tail : goal.returns-in-Err-clause-tail
unfolding line
returns-in-Err-clause-tail g c = memory_tail _ c.say-in-Err.result (g.W.World.seen c.args.world.now).told (g.W.World.seen c.say-in-Err.new.world).told refl c.say-in-Err.ensures.said
