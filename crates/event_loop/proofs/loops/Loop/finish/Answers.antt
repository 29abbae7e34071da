use Rattle.std.proofs.Common.{refl}
use Rattle.event_loop.proofs.Ending.{ended_on, fewer_calls, goes_itself, goes_then, same_itself, same_then, still_somewhere}
use Rattle.event_loop.proofs.loops.Loop.finish.Goals as goal

pub loop-outcome-init : goal.loop-outcome-init
loop-outcome-init g c = record { keeps = goes_itself _ c.args.self.now; same = same_itself c.args.self.now }

pub turn-requires : goal.turn-requires
turn-requires g c = still_somewhere _ _ c.args.self.now c.loop-outcome.self c.requires c.loop-outcome.invariant.keeps

pub returns-in-Over : goal.returns-in-Over
returns-in-Over g c = ended_on _ _ _ c.args.self.now c.loop-outcome.self c.turn.new.self c.in-Over.outcome c.loop-outcome.invariant.same c.loop-outcome.invariant.keeps c.in-Over.ensures.turns

pub loop-outcome-preserved : goal.loop-outcome-preserved
loop-outcome-preserved g c = record {
  keeps = goes_then _ _ _ c.args.self.now c.loop-outcome.self c.turn.new.self _ refl c.loop-outcome.invariant.keeps c.in-Goes.ensures.turns;
  same = same_then c.args.self.now c.loop-outcome.self c.turn.new.self c.loop-outcome.invariant.same c.turn.ensures.same;
}

pub loop-outcome-smaller : goal.loop-outcome-smaller
loop-outcome-smaller g c = fewer_calls c.loop-outcome.self c.turn.new.self c.turn.ensures.same c.in-Goes.ensures.further
