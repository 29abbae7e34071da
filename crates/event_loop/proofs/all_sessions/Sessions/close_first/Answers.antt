use Rattle.std.proofs.Common.{refl, sym}
use Rattle.event_loop.proofs.DoorClosings.{taken_first, first_closed, nothing_first, a_stop_or_memory}
use Rattle.event_loop.proofs.all_sessions.Sessions.close_first.Goals as goal

pub close-requires : goal.close-requires
close-requires g c = let at = c.requires in taken_first _ c.args.why c.args.self.now c.in-Some.thing at (sym (c.in-Some.ensures.first at.c at.past at.vacated.exit.stands))

pub returns-in-Some-clause-closes : goal.returns-in-Some-clause-closes
returns-in-Some-clause-closes g c = λ k n start past v.
    let e = sym (c.in-Some.ensures.first k past v.exit.stands) in
    first_closed k n start _ _ past c.args.why c.args.self.now _ c.in-Some.thing v e
    (record { memory = c.in-Some.ensures.memory k n past c.in-Some.thing v.exit.stands refl; limit = λ t r. c.in-Some.ensures.limit k n past c.in-Some.thing v.exit.stands refl t r })
    (record { did = c.close.ensures.act; later = c.close.ensures.faults; waitless = c.close.ensures.waitless })
    (c.hear_closing.ensures k past c.in-Some.thing v.exit.stands e (a_stop_or_memory past c.args.why v.exit.may)) refl

pub returns-in_default-clause-closes : goal.returns-in_default-clause-closes
returns-in_default-clause-closes g c = λ k n start past v. nothing_first k n start _ past c.args.why c.args.self.now _ v (sym (c.in_default.ensures.first k past v.exit.stands)) refl refl
