use Rattle.std.proofs.Common.{◌∙◌}
use Rattle.relay_model.specs.declared.acts.Why.TheVariants as whys
use Rattle.session_driver.proofs.Noting.{closing_as, short_held}
use Rattle.session_driver.proofs.noted_steps.close_first.Goals as goal

pub close-requires-clause-held : goal.close-requires-clause-held
close-requires-clause-held g c = short_held _ c.args.session.now c.in-Close.thing c.in-Close.why c.in-Close.ensures.wish c.requires

pub unreachable-requires : goal.unreachable-requires
unreachable-requires g c = c.in_default.not-Close c.requires.thing whys.Memory (c.wish.ensures.wish ∙ c.requires.wish)

pub returns : goal.returns
returns g c = λ thing wish. closing_as c.args.config.now _ _ _ _ thing whys.Memory c.close.result wish c.close.ensures.acted c.close.ensures.step
