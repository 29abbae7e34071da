use Rattle.std.proofs.Common.{◌+◌, ap, sym, ◌∙◌, arith}
use Rattle.session_loop.proofs.Ended.{happened}
use Rattle.event_loop.proofs.Rooms.{kept_room}
use Rattle.event_loop.proofs.one.OneSession.turn.Goals as goal

pub turn-requires-clause-course : goal.turn-requires-clause-course
turn-requires-clause-course g c = let at = c.requires in record { start = at.start; past = at.past; course = at.is.course }

pub turn-requires-clause-block : goal.turn-requires-clause-block
turn-requires-clause-block g c = c.requires.is.room

pub turn-requires-clause-within : goal.turn-requires-clause-within
turn-requires-clause-within g c = c.requires.is.within

pub outcome-requires : goal.outcome-requires
outcome-requires g c =
    let at = c.requires in
    let o = c.turn.ensures.course at.start at.past at.is.course in
    let run = o.course.run in
    let w = c.in-Some.ensures.done c.args.config.now c.args.turns o.past run.runnable run.stands run.legal o.course.settled.unowed in
    record { c = c.args.config.now; n = c.args.turns; start = at.start; now = _; past = o.past; course = o.course; done = w.0 }

pub returns-in-None-clause-turns : goal.returns-in-None-clause-turns
returns-in-None-clause-turns g c = λ start past on.
    let w = c.in-None.ensures.waited start past on.course in
    let f = c.in-None.ensures.goes in
    record {
      since = w.past;
      stands = record { course = w.course; within = (let a = f.0 in let b = f.1 in omega (arith, a, b)); room = kept_room _ _ _ on.room c.turn.ensures.scratch };
      last = w.last;
      turned = w.course.run.turned ∙ f.1 ∙ ap (λ k. k + 1) (sym on.course.run.turned);
    }

pub returns-in-Some-clause-turns : goal.returns-in-Some-clause-turns
returns-in-Some-clause-turns g c = λ start past on.
    let o = c.turn.ensures.course start past on.course in
    let run = o.course.run in
    let w = c.in-Some.ensures.done c.args.config.now c.args.turns o.past run.runnable run.stands run.legal o.course.settled.unowed in
    record {
      since = o.past;
      ended = record { happened = happened c.args.config.now c.args.turns start _ c.turn.new.self o.past o.course; ends = c.outcome.ensures.answer c.args.config.now c.args.turns start _ o.past o.course w.0 };
      turned = run.turned ∙ c.in-Some.ensures.waitless ∙ sym on.course.run.turned;
    }
