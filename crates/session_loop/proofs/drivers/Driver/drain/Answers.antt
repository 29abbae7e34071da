use Rattle.std.proofs.Common.{◌∙◌}
use Rattle.session_loop.proofs.Going.{kept_for}
use Rattle.session_loop.proofs.drivers.Driver.drain.Goals as goal

pub step-requires-clause-course : goal.step-requires-clause-course
step-requires-clause-course g c = (c.requires.course.0, kept_for c.args.config.now c.requires.course.0 _ _ c.args.self.now _ c.requires.course.1 c.loop-pause.invariant.keeps)

pub returns-in-Some-clause-course : goal.returns-in-Some-clause-course
returns-in-Some-clause-course g c = λ n start past on. let o = c.loop-pause.invariant.keeps n start past on in c.step.ensures.course n start o.past o.course

pub loop-pause-preserved : goal.loop-pause-preserved
loop-pause-preserved g c = record {
  keeps = λ n start past on. (let o = c.loop-pause.invariant.keeps n start past on in c.step.ensures.course n start o.past o.course);
  over = λ h. c.step.ensures.over (c.loop-pause.invariant.over h);
  made = c.step.ensures.made ∙ c.loop-pause.invariant.made;
  room = c.step.ensures.scratch ∙ c.loop-pause.invariant.room;
}
