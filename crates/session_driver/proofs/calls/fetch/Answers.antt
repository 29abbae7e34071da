use Rattle.std.proofs.Common.{ap, ◌∙◌, arith}
use Rattle.std.proofs.lemmas.List.{length-take-le}
use Rattle.relay_session.specs.Sessions.{wish_of}
use Rattle.session_driver.proofs.Hearing.{fits_as, heard_as}
use Rattle.session_driver.proofs.Reading.{read_acts}
use Rattle.session_driver.proofs.calls.fetch.Goals as goal

pub hear-requires : goal.hear-requires
hear-requires g c =
    let step = c.in-Bytes.ensures.step in
    let long = length-take-le c.in-Bytes.count c.ask.new.into step.1 in
    fits_as _ _ c.ask.new.session (ap wish_of step.2 ∙ c.requires.reads.wish) (omega (arith, long, step.0), omega (arith, long, step.1, c.ask.ensures.into, c.requires.wished))

pub returns-in-Bytes-clause-step : goal.returns-in-Bytes-clause-step
returns-in-Bytes-clause-step g c =
    let step = c.in-Bytes.ensures.step in
    let wish = ap wish_of step.2 ∙ c.requires.reads.wish in (
      step.0,
      step.1,
      read_acts c.args.config.now _ _ _ c.ask.new.session _ c.args.place c.args.at_most _ c.requires.reads.wish step.2 step.3
          (λ n past s st. heard_as _ n past s _ _ _ _ wish (c.hear.ensures.act c.args.config.now n past s st))
          (λ n past s st e. c.hear.ensures.over c.args.config.now n past s st e)
          (λ n past s st e. c.hear.ensures.ending c.args.config.now n past s st e),
    )
