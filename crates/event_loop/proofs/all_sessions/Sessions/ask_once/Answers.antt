use Rattle.event_loop.proofs.Looking.{looks_none, looks_then}
use Rattle.event_loop.proofs.DoorSteps.{course_but_next, idle_but_next, memory_ends, some_next, asked_before}
use Rattle.event_loop.proofs.DoorPays.{paid_before, paid_short}
use Rattle.event_loop.proofs.all_sessions.Sessions.ask_once.Goals as goal

pub ask_for-requires-clause-course : goal.ask_for-requires-clause-course
ask_for-requires-clause-course g c = some_next c.args.config.now _ c.args.self.now _ c.requires.course c.ready_next.ensures.same

pub ask_for-requires-clause-idle : goal.ask_for-requires-clause-idle
ask_for-requires-clause-idle g c = idle_but_next c.args.config.now c.args.self.now _ c.ready_next.ensures.same c.requires.idle

pub returns-in-Ok-clause-asks : goal.returns-in-Ok-clause-asks
returns-in-Ok-clause-asks g c = asked_before c.args.config.now _ _ c.args.self.now c.ready_next.new.self _ _ c.ready_next.ensures.same c.ask_for.ensures.asks

pub returns-in-Err-clause-asks : goal.returns-in-Err-clause-asks
returns-in-Err-clause-asks g c = λ n start past on. memory_ends c.args.config.now n start _ past _ (course_but_next c.args.config.now n start _ past c.args.self.now _ on c.ready_next.ensures.same)

pub returns-in-Ok-clause-looks : goal.returns-in-Ok-clause-looks
returns-in-Ok-clause-looks g c = looks_then 0 _ _ _ c.args.self.now c.ready_next.new.self c.ask_for.new.self (looks_none _ c.args.self.now c.ready_next.new.self c.ready_next.ensures.same.door_same c.ready_next.ensures.same.admitted_same) c.ask_for.ensures.looks

pub returns-in-Err-clause-looks : goal.returns-in-Err-clause-looks
returns-in-Err-clause-looks g c = looks_none _ c.args.self.now c.ready_next.new.self c.ready_next.ensures.same.door_same c.ready_next.ensures.same.admitted_same

pub returns-in-Ok-clause-paid : goal.returns-in-Ok-clause-paid
returns-in-Ok-clause-paid g c = paid_before c.args.config.now _ _ _ _ c.args.self.now c.ready_next.new.self c.ask_for.new.self _ c.ready_next.ensures.same c.ask_for.ensures.paid

pub returns-in-Err-clause-paid : goal.returns-in-Err-clause-paid
returns-in-Err-clause-paid g c = paid_short c.args.config.now _ _ c.args.self.now c.ready_next.new.self c.ready_next.ensures.same
