use Rattle.event_loop.proofs.Looking.{looks_none, looks_then}
use Rattle.std.proofs.Common.{refl, ◌∙◌}
use Rattle.event_loop.proofs.RowLoops.{keeps_all, kept_on, keeps_then}
use Rattle.event_loop.proofs.DoorSteps.{asked_then}
use Rattle.event_loop.proofs.DoorPays.{asked_first, asked_next, asked_last}
use Rattle.event_loop.proofs.all_sessions.Sessions.ask_door.Goals as goal

pub loop-asked-init : goal.loop-asked-init
loop-asked-init g c = record { keeps = keeps_all c.args.config.now _ c.args.self.now; idle = c.requires.idle; looks = looks_none _ c.args.self.now c.args.self.now refl refl; made_same = refl; paid = asked_first c.args.config.now _ c.args.self.now _ }

pub ask_once-requires-clause-course : goal.ask_once-requires-clause-course
ask_once-requires-clause-course g c = kept_on c.args.config.now _ _ c.args.self.now _ c.requires.course c.loop-asked.invariant.keeps

pub returns-in-Some-clause-asks : goal.returns-in-Some-clause-asks
returns-in-Some-clause-asks g c = asked_then c.args.config.now _ _ _ c.args.self.now c.loop-asked.self _ c.in-Some.asked c.loop-asked.invariant.keeps c.loop-asked.invariant.made_same c.in-Some.ensures.asks

pub loop-asked-preserved : goal.loop-asked-preserved
loop-asked-preserved g c = record { keeps = keeps_then c.args.config.now _ _ _ c.args.self.now c.loop-asked.self _ c.loop-asked.invariant.keeps c.in_default.ensures.asks.0; idle = c.in_default.ensures.asks.1; looks = looks_then 0 _ _ _ c.args.self.now c.loop-asked.self c.ask_once.new.self c.loop-asked.invariant.looks c.ask_once.ensures.looks; made_same = c.ask_once.ensures.made ∙ c.loop-asked.invariant.made_same; paid = asked_next c.args.config.now _ _ _ c.args.self.now c.loop-asked.self c.ask_once.new.self _ _ _ c.loop-asked.invariant.paid c.in_default.ensures.paid }

pub returns-in-Some-clause-looks : goal.returns-in-Some-clause-looks
returns-in-Some-clause-looks g c = looks_then 0 _ _ _ c.args.self.now c.loop-asked.self c.ask_once.new.self c.loop-asked.invariant.looks c.ask_once.ensures.looks

pub returns-in-Some-clause-paid : goal.returns-in-Some-clause-paid
returns-in-Some-clause-paid g c = asked_last c.args.config.now _ _ _ c.args.self.now c.loop-asked.self c.ask_once.new.self _ _ _ c.in-Some.asked c.loop-asked.invariant.paid c.in-Some.ensures.paid

pub returns-in-Some-clause-made : goal.returns-in-Some-clause-made
returns-in-Some-clause-made g c = c.ask_once.ensures.made ∙ c.loop-asked.invariant.made_same
