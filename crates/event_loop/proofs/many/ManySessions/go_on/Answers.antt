use Rattle.std.proofs.Common.{refl, sym, subst, ◌∙◌, add-one, Some, None}
use Rattle.event_loop.specs.Loops.{AreSessions}
use Rattle.event_loop.proofs.BothRuns.{early_end, early_paid, late_further, late_on, paid_on, round_on, turned_sessions, within}
use Rattle.event_loop.proofs.many.ManySessions.go_on.Goals as goal

pub turn-requires-clause-fit : goal.turn-requires-clause-fit
turn-requires-clause-fit g c = c.requires.some.is.fit

pub turn-requires-clause-course : goal.turn-requires-clause-course
turn-requires-clause-course g c = let at = c.requires.some in within c.args.config.now c.args.turns at.start _ at.past c.args.self.now c.requires.going at.is

pub returns-in-None-clause-turns : goal.returns-in-None-clause-turns
returns-in-None-clause-turns g c = λ start past on.
    let sessions = (subst (AreSessions c.args.config.now c.args.turns start _ past c.args.self.now.sessions) c.requires.going on.sessions) in
    round_on c.args.config.now c.args.turns start _ past c.args.self.now.sessions.made _ on.fit c.requires.going (turned_sessions c.args.config.now c.args.turns start _ past c.args.self.now.sessions _ on.sessions) (c.in-None.ensures.turns.0 start past sessions.0) c.in-None.ensures.turns.1.1

pub returns-in-None-clause-further : goal.returns-in-None-clause-further
returns-in-None-clause-further g c = let f = c.in-None.ensures.turns.1 in (f.0, f.1 ∙ sym (add-one _))

pub returns-in-None-clause-looks : goal.returns-in-None-clause-looks
returns-in-None-clause-looks g c = λ start past on timely.
    let sessions = (subst (AreSessions c.args.config.now c.args.turns start _ past c.args.self.now.sessions) c.requires.going on.sessions) in
    paid_on c.args.config.now c.args.turns start _ past c.turn.new.self None _ _ sessions.0.frame.fork (c.in-None.ensures.looks (within c.args.config.now c.args.turns start _ past c.args.self.now c.requires.going on) timely)

pub returns-then-comes_after_wait-clause-turns : goal.returns-then-comes_after_wait-clause-turns
returns-then-comes_after_wait-clause-turns g c = λ start past on.
    let sessions = (subst (AreSessions c.args.config.now c.args.turns start _ past c.args.self.now.sessions) c.requires.going on.sessions) in
    late_on c.args.config.now c.args.turns start _ past c.args.self.now.sessions _ c.in-Some.end on.fit refl (sym c.comes_after_wait.ensures ∙ c.if-comes_after_wait.true) (turned_sessions c.args.config.now c.args.turns start _ past c.args.self.now.sessions _ on.sessions) (c.in-Some.ensures.turns.0 start past sessions.0) c.in-Some.ensures.turns.1

pub returns-then-comes_after_wait-clause-further : goal.returns-then-comes_after_wait-clause-further
returns-then-comes_after_wait-clause-further g c = late_further c.args.turns c.args.self.now.sessions c.turn.new.self c.in-Some.end (sym c.comes_after_wait.ensures ∙ c.if-comes_after_wait.true) c.in-Some.ensures.turns.1

pub returns-then-comes_after_wait-clause-looks : goal.returns-then-comes_after_wait-clause-looks
returns-then-comes_after_wait-clause-looks g c = λ start past on timely.
    let sessions = (subst (AreSessions c.args.config.now c.args.turns start _ past c.args.self.now.sessions) c.requires.going on.sessions) in
    paid_on c.args.config.now c.args.turns start _ past c.turn.new.self (Some c.in-Some.end) _ _ sessions.0.frame.fork (c.in-Some.ensures.looks (within c.args.config.now c.args.turns start _ past c.args.self.now c.requires.going on) timely)

pub end-requires : goal.end-requires
end-requires g c =
    let at = c.requires.some in
    let w = within c.args.config.now c.args.turns at.start _ at.past c.args.self.now c.requires.going at.is in
    record { n = c.args.turns; start = at.start; end_is = c.in-Some.ensures.turns.0 at.start at.past w.course }

pub returns-else-comes_after_wait-clause-turns : goal.returns-else-comes_after_wait-clause-turns
returns-else-comes_after_wait-clause-turns g c = λ start past on.
    let sessions = (subst (AreSessions c.args.config.now c.args.turns start _ past c.args.self.now.sessions) c.requires.going on.sessions) in
    early_end c.args.config.now c.args.turns start _ past _ c.args.self.now.sessions c.turn.new.self c.in-Some.end _ _ _ (sym c.comes_after_wait.ensures ∙ c.if-comes_after_wait.false) (turned_sessions c.args.config.now c.args.turns start _ past c.args.self.now.sessions _ on.sessions) c.in-Some.ensures.turns.1 (c.end.ensures c.args.turns start (c.in-Some.ensures.turns.0 start past sessions.0))

pub returns-else-comes_after_wait-clause-looks : goal.returns-else-comes_after_wait-clause-looks
returns-else-comes_after_wait-clause-looks g c = λ start past on timely.
    let sessions = (subst (AreSessions c.args.config.now c.args.turns start _ past c.args.self.now.sessions) c.requires.going on.sessions) in
    early_paid c.args.config.now c.args.turns start _ _ past c.turn.new.self c.in-Some.end _ _ _ _ (sym c.comes_after_wait.ensures ∙ c.if-comes_after_wait.false) (c.in-Some.ensures.turns.0 start past sessions.0) (c.in-Some.ensures.looks (within c.args.config.now c.args.turns start _ past c.args.self.now c.requires.going on) timely) c.end.ensures
