use Rattle.std.proofs.Common.{ℕ, List, sym, subst, ◌∙◌, arith}
use Rattle.std.proofs.lemmas.List.{length-take-le, take-append-le, take_all}
use Rattle.session_driver.specs.Noted.{AskIs}
use Rattle.session_driver.proofs.calls.ask_front.Goals as goal

pub ask-requires-clause-wished : goal.ask-requires-clause-wished
ask-requires-clause-wished g c = length-take-le c.args.at_most c.args.block.now c.requires.within

pub returns-clause-step : goal.returns-clause-step
returns-clause-step g c =
    let into = c.ask.new.into in
    let long = c.ask.ensures.into ∙ length-take-le c.args.at_most c.args.block.now c.requires.within in
    let front = take-append-le c.args.at_most into _ (omega (arith, long)) ∙ take_all c.args.at_most into (omega (arith, long)) in
    subst (λ (xs : List ℕ). AskIs c.args.config.now (g.W.World.seen c.args.world.now) (g.W.World.seen c.ask.new.world) c.args.session.now c.ask.new.session c.args.place xs c.ask.result) (sym front) c.ask.ensures.step
