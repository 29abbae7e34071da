use Rattle.std.proofs.Common.{◌≡◌, refl, ◌∙◌, arith}
use Rattle.session_loop.proofs.Going.{recut, turned_for}
use Rattle.session_loop.proofs.drivers.Driver.sleep.Goals as goal

pub returns-then-wait-clause-course : goal.returns-then-wait-clause-course
returns-then-wait-clause-course g c = λ start past on. c.wait.ensures.course c.args.config.now start past on

pub returns-then-wait-clause-waited : goal.returns-then-wait-clause-waited
returns-then-wait-clause-waited g c = λ start past on. c.wait.ensures.waited c.if-wait.true c.args.config.now start past on

pub close_all-requires-clause-course : goal.close_all-requires-clause-course
close_all-requires-clause-course g c = (c.args.turns, turned_for c.args.config.now c.args.turns _ _ c.args.self.now _ c.requires.course (c.wait.ensures.course c.args.config.now))

pub returns-then-self-turns-clause-course : goal.returns-then-self-turns-clause-course
returns-then-self-turns-clause-course g c = λ start past on. let o = c.wait.ensures.course c.args.config.now start past on in c.close_all.ensures.course c.args.turns start o.past o.course

pub close_all-requires-2-clause-course : goal.close_all-requires-2-clause-course
close_all-requires-2-clause-course g c =
    let k = c.args.config.now in
    let at = c.requires.course in
    let on = at.course in
    let all : c.args.self.now.made ≡ c.args.turns = omega arith in
    let w = c.requires.paused k c.args.turns at.past on.run.runnable on.run.stands on.run.legal on.settled.unowed in
    let stands = c.cut.ensures.limit k c.args.turns at.past 0 on.run.stands c.requires.pause.1 (on.run.turned ∙ all) w.0 refl in
    (c.args.turns, record { start = at.start; past = at.past; course = recut k c.args.turns at.start _ c.args.self.now _ at.past on stands refl refl on.settled })

pub returns-clause-course : goal.returns-clause-course
returns-clause-course g c = λ start past on.
    let k = c.args.config.now in
    let all : c.args.self.now.made ≡ c.args.turns = omega arith in
    let w = c.requires.paused k c.args.turns past on.run.runnable on.run.stands on.run.legal on.settled.unowed in
    let stands = c.cut.ensures.limit k c.args.turns past 0 on.run.stands c.requires.pause.1 (on.run.turned ∙ all) w.0 refl in
    c.close_all-2.ensures.course c.args.turns start past (recut k c.args.turns start _ c.args.self.now _ past on stands refl refl on.settled)
