use Rattle.std.proofs.Common.{refl}
use Rattle.event_loop.proofs.Ending.{goes_itself, goes_then, still_somewhere}
use Rattle.run_trials.proofs.looks.count_looks.Goals as goal

pub loop-init : goal.loop-init
loop-init g c = c.requires.some

pub turn-step-requires : goal.turn-step-requires
turn-step-requires g c = c.loop.invariant

pub loop-preserved : goal.loop-preserved
loop-preserved g c =
    still_somewhere _ _ c.loop.whole c.turn-step.new.self c.loop.invariant
    (goes_then _ _ _ c.loop.whole c.loop.whole c.turn-step.new.self _ refl (goes_itself _ c.loop.whole) c.in-Goes.ensures.turns)
