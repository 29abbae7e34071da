use Rattle.session_driver.proofs.Noting.{settled_step, owing_step}
use Rattle.session_driver.proofs.noted_steps.step_or_close.Goals as goal

pub returns-in-Some-clause-step : goal.returns-in-Some-clause-step
returns-in-Some-clause-step g c = settled_step c.args.config.now _ _ _ _ _ _ c.in-Some.stepped c.in-Some.ensures.step

pub close_first-requires : goal.close_first-requires
close_first-requires g c = c.in-None.ensures.step.cut.short

pub returns-in-None-clause-step : goal.returns-in-None-clause-step
returns-in-None-clause-step g c = owing_step c.args.config.now _ _ _ _ _ _ _ _ c.in-None.ensures.step c.close_first.ensures
