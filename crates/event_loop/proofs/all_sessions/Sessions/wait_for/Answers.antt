use Rattle.std.proofs.Common.{[], refl, arith}
use Rattle.event_loop.proofs.InOrder.{in_order, limit_ends, limit_ends_after}
use Rattle.event_loop.proofs.Looking.{no_longer}
use Rattle.event_loop.proofs.all_sessions.Sessions.wait_for.Goals as goal

pub returns-in-Goes-clause-waits : goal.returns-in-Goes-clause-waits
returns-in-Goes-clause-waits g c = (λ start past on wished. record { past = past; until = _; turned = c.in-Goes.ensures.waits.0 start past on (in_order c.args.config.now c.args.turns start _ past c.args.self.now c.args.first _ on wished c.requires.idle c.least_until-until.ensures) (no_longer c.args.first _ c.args.self.now c.least_until-until.ensures) }, (c.if-self-turns.true, c.in-Goes.ensures.waits.1))

pub returns-in-Stops-clause-waits : goal.returns-in-Stops-clause-waits
returns-in-Stops-clause-waits g c = (λ start past on wished. c.in-Stops.ensures.waits.0 start past on (in_order c.args.config.now c.args.turns start _ past c.args.self.now c.args.first _ on wished c.requires.idle c.least_until-until.ensures), (c.if-self-turns.true, c.in-Stops.ensures.waits.1))

pub returns-in-Short-clause-waits : goal.returns-in-Short-clause-waits
returns-in-Short-clause-waits g c = (λ start past on wished. c.in-Short.ensures.waits.0 start past on (in_order c.args.config.now c.args.turns start _ past c.args.self.now c.args.first _ on wished c.requires.idle c.least_until-until.ensures), (c.if-self-turns.true, c.in-Short.ensures.waits.1))

pub returns-in-Memory-clause-waits : goal.returns-in-Memory-clause-waits
returns-in-Memory-clause-waits g c = (λ start past on wished. c.in-Memory.ensures.waits.0 start past on (in_order c.args.config.now c.args.turns start _ past c.args.self.now c.args.first _ on wished c.requires.idle c.least_until-until.ensures), c.in-Memory.ensures.waits.1)

pub returns-else-self-turns-clause-waits : goal.returns-else-self-turns-clause-waits
returns-else-self-turns-clause-waits g c = (λ start past on wished. limit_ends c.args.config.now c.args.turns start _ past _ _ on (in_order c.args.config.now c.args.turns start _ past c.args.self.now c.args.first _ on wished c.requires.idle c.least_until-until.ensures) c.if-self-turns.false, refl)

pub returns-in-Goes-clause-paid : goal.returns-in-Goes-clause-paid
returns-in-Goes-clause-paid g c = λ start past on wished. c.in-Goes.ensures.paid start past on (in_order c.args.config.now c.args.turns start _ past c.args.self.now c.args.first _ on wished c.requires.idle c.least_until-until.ensures) (no_longer c.args.first _ c.args.self.now c.least_until-until.ensures)

pub returns-in-Stops-clause-paid : goal.returns-in-Stops-clause-paid
returns-in-Stops-clause-paid g c = λ start past on wished. c.in-Stops.ensures.paid start past on (in_order c.args.config.now c.args.turns start _ past c.args.self.now c.args.first _ on wished c.requires.idle c.least_until-until.ensures) (no_longer c.args.first _ c.args.self.now c.least_until-until.ensures)

pub returns-in-Short-clause-paid : goal.returns-in-Short-clause-paid
returns-in-Short-clause-paid g c = λ start past on wished. c.in-Short.ensures.paid start past on (in_order c.args.config.now c.args.turns start _ past c.args.self.now c.args.first _ on wished c.requires.idle c.least_until-until.ensures) (no_longer c.args.first _ c.args.self.now c.least_until-until.ensures)

pub returns-in-Memory-clause-paid : goal.returns-in-Memory-clause-paid
returns-in-Memory-clause-paid g c = λ start past on wished. c.in-Memory.ensures.paid start past on (in_order c.args.config.now c.args.turns start _ past c.args.self.now c.args.first _ on wished c.requires.idle c.least_until-until.ensures) (no_longer c.args.first _ c.args.self.now c.least_until-until.ensures)

pub returns-else-self-turns-clause-paid : goal.returns-else-self-turns-clause-paid
returns-else-self-turns-clause-paid g c = λ start past on wished. record { made = []; holds = limit_ends_after c.args.config.now c.args.turns start _ past _ _ on (in_order c.args.config.now c.args.turns start _ past c.args.self.now c.args.first _ on wished c.requires.idle c.least_until-until.ensures) c.if-self-turns.false; few = omega arith }
