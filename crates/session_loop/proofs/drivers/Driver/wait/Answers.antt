use Rattle.std.proofs.Common.{refl, arith}
use Rattle.relay_session.proofs.Lives.{turn_stands}
use Rattle.session_loop.proofs.Going.{turned_on, idled}
use Rattle.session_loop.proofs.drivers.Driver.wait.Goals as goal

pub returns-in-Turned-clause-course : goal.returns-in-Turned-clause-course
returns-in-Turned-clause-course g c = λ k start past on.
    let w = c.requires.paused k c.args.turns past on.run.runnable on.run.stands on.run.legal on.settled.unowed in
    let t = turned_on k c.args.turns start _ _ c.args.self.now _ past c.args.until c.in-Turned.at _ c.in-Turned.stop on c.in-Turned.ensures.act (omega (arith, on.run.turned, c.requires.few)) w.0 w.1 (turn_stands k c.args.turns past 0 c.args.until c.in-Turned.at c.wait.new.ready c.in-Turned.stop _ (c.hear_turn.ensures.hears k c.args.turns past 0 c.args.until on.run.stands c.requires.pause.0)) refl refl refl c.in-Turned.ensures.faults c.in-Turned.ensures.counts in
    record { past = t.past; course = t.course }

pub returns-in-Turned-clause-waited : goal.returns-in-Turned-clause-waited
returns-in-Turned-clause-waited g c = λ _ k start past on.
    let w = c.requires.paused k c.args.turns past on.run.runnable on.run.stands on.run.legal on.settled.unowed in
    turned_on k c.args.turns start _ _ c.args.self.now _ past c.args.until c.in-Turned.at _ c.in-Turned.stop on c.in-Turned.ensures.act (omega (arith, on.run.turned, c.requires.few)) w.0 w.1 (turn_stands k c.args.turns past 0 c.args.until c.in-Turned.at c.wait.new.ready c.in-Turned.stop _ (c.hear_turn.ensures.hears k c.args.turns past 0 c.args.until on.run.stands c.requires.pause.0)) refl refl refl c.in-Turned.ensures.faults c.in-Turned.ensures.counts

pub returns-in-Memory-clause-course : goal.returns-in-Memory-clause-course
returns-in-Memory-clause-course g c = λ k start past on. idled k c.args.turns start _ _ c.args.self.now _ past on c.in-Memory.ensures.act (c.cut.ensures.memory k c.args.turns past 0 on.run.stands c.requires.pause.1 refl) refl refl on.settled c.in-Memory.ensures.faults c.in-Memory.ensures.counts.waits c.in-Memory.ensures.counts.stops
