use Rattle.std.proofs.Common.{sym, subst, ◌∙◌, ◌++◌}
use Rattle.event_loop.specs.Loops.{AreSessions}
use Rattle.event_loop.specs.Vacated.{acts_to}
use Rattle.event_loop.proofs.BothRuns.{end_is, led_there, paid_there, turned_sessions}
use Rattle.event_loop.proofs.many.ManySessions.turn.Goals as goal

pub end-requires : goal.end-requires
end-requires g c =
    let at = c.requires in
    record { n = c.args.turns; start = at.start; end_is = end_is c.args.config.now c.args.turns at.start _ at.past c.args.self.now.sessions c.in-Some.end (subst (AreSessions c.args.config.now c.args.turns at.start _ at.past c.args.self.now.sessions) c.in-Some.is at.is.sessions) }

pub returns-in-Some-clause-turns : goal.returns-in-Some-clause-turns
returns-in-Some-clause-turns g c = λ start past on.
    let sessions = subst (AreSessions c.args.config.now c.args.turns start _ past c.args.self.now.sessions) c.in-Some.is on.sessions in
    let e = c.end.ensures c.args.turns start (end_is c.args.config.now c.args.turns start _ past c.args.self.now.sessions c.in-Some.end sessions) in
    record { since = e.made ++ acts_to c.args.config.now c.args.turns start _ c.args.self.now.sessions c.in-Some.end (end_is c.args.config.now c.args.turns start _ past c.args.self.now.sessions c.in-Some.end sessions); ended = e.ended; turned = e.turned_is ∙ sym (turned_sessions c.args.config.now c.args.turns start _ past c.args.self.now.sessions _ on.sessions) }

pub returns-in-Some-clause-looks : goal.returns-in-Some-clause-looks
returns-in-Some-clause-looks g c = λ start past on timely.
    let sessions = subst (AreSessions c.args.config.now c.args.turns start _ past c.args.self.now.sessions) c.in-Some.is on.sessions in
    paid_there c.args.config.now c.args.turns start _ past _ _ _ _ _ (led_there c.args.config.now c.args.turns start _ past c.args.self.now.sessions c.in-Some.end sessions) (c.end.ensures c.args.turns start (end_is c.args.config.now c.args.turns start _ past c.args.self.now.sessions c.in-Some.end sessions))
