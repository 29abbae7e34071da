use Rattle.std.proofs.Common.{◌∙◌, arith}
use Rattle.session_loop.proofs.Going.{kept_for, waited_after}
use Rattle.session_loop.proofs.drivers.Driver.turn.Goals as goal

pub drain-requires-clause-course : goal.drain-requires-clause-course
drain-requires-clause-course g c = (c.args.turns, c.requires.course)

pub returns-in-Done-clause-course : goal.returns-in-Done-clause-course
returns-in-Done-clause-course g c = λ start past on. c.drain.ensures.course c.args.turns start past on

pub sleep-requires-clause-course : goal.sleep-requires-clause-course
sleep-requires-clause-course g c = kept_for c.args.config.now c.args.turns _ _ c.args.self.now _ c.requires.course c.drain.ensures.course

pub returns-in-Sleep-clause-course : goal.returns-in-Sleep-clause-course
returns-in-Sleep-clause-course g c = λ start past on. let o = c.drain.ensures.course c.args.turns start past on in c.sleep.ensures.course start o.past o.course

pub returns-in-Sleep-clause-waited : goal.returns-in-Sleep-clause-waited
returns-in-Sleep-clause-waited g c = waited_after c.args.config.now c.args.turns _ _ _ c.args.self.now _ _ c.sleep.result c.drain.ensures.course c.sleep.ensures.waited
