use Rattle.std.proofs.Common.{refl, ap, ◌∙◌, arith}
use Rattle.std.proofs.lemmas.List.{length-take-le}
use Rattle.relay_session.specs.Sessions.{wish_of}
use Rattle.session_driver.proofs.Noting.{unread_step}
use Rattle.session_driver.proofs.Reading.{block_heard, fits_read, front_kept, read_acts}
use Rattle.session_driver.proofs.calls.read_front.Goals as goal

pub hear_block-requires : goal.hear_block-requires
hear_block-requires g c =
    let step = c.in-Bytes.ensures.step in
    let block = c.ask_front.new.block in
    let room = length-take-le c.args.at_most block (omega (arith, c.requires.within, c.as_mut_slice.ensures.len, c.ask_front.ensures.block)) in record {
      within = omega (arith, step.1, room, c.requires.within);
      fits = fits_read c.ask_front.new.session c.args.session.now c.args.place c.args.at_most c.in-Bytes.count step.2 c.requires.reads.wish (step.0, omega (arith, step.1, room));
    }

pub returns-in-Bytes-clause-step : goal.returns-in-Bytes-clause-step
returns-in-Bytes-clause-step g c =
    let step = c.in-Bytes.ensures.step in
    let wish = ap wish_of step.2 ∙ c.requires.reads.wish in
    let block = c.ask_front.new.block in
    let room = length-take-le c.args.at_most block (omega (arith, c.requires.within, c.as_mut_slice.ensures.len, c.ask_front.ensures.block)) in
    let front = front_kept c.in-Bytes.count c.args.scratch.now.len c.args.at_most block _ (omega (arith, step.1, room)) (omega (arith, c.requires.within)) (omega (arith, c.requires.within, c.as_mut_slice.ensures.len, c.ask_front.ensures.block)) in (
      _,
      λ past s. refl,
      read_acts c.args.config.now _ _ _ c.ask_front.new.session _ c.args.place c.args.at_most _ c.requires.reads.wish step.2 step.3
          (λ n past s st. block_heard c.args.config.now n past s c.args.place c.args.at_most _ _ c.ask_front.new.session _ wish front (c.hear_block.ensures.act c.args.config.now n past s st))
          (λ n past s st e. c.hear_block.ensures.over c.args.config.now n past s st e)
          (λ n past s st e. c.hear_block.ensures.ending c.args.config.now n past s st e),
    )

pub returns-in-Other-clause-step : goal.returns-in-Other-clause-step
returns-in-Other-clause-step g c = unread_step _ _ _ _ _ c.in-Other.stepped c.in-Other.ensures.step
