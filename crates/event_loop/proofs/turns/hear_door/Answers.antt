use Rattle.std.proofs.Common.{◌≡◌, refl, take, length, arith}
use Rattle.std.proofs.Math.Seq.{take-length}
use Rattle.relay_model.specs.Readiness.{copied_list}
use Rattle.relay_session.proofs.Naming.{take_next}
use Rattle.event_loop.proofs.turns.hear_door.Goals as goal

pub loop-i-preserved : goal.loop-i-preserved
loop-i-preserved c = λ k past until at st. rw (take_next c.args.ready.now.entries c.loop-i.i c.get.result c.get.ensures) (c.ready.ensures k past until at 0 (take c.loop-i.i c.args.ready.now.entries) (c.loop-i.invariant k past until at st))

pub returns-then-stop : goal.returns-then-stop
returns-then-stop c =
    let e : c.loop-i.i ≡ length c.args.ready.now.entries = omega arith in
    rw c.if-stop.true (λ k past until at st. c.cut.ensures.stop k past until at (copied_list c.args.ready.now) (rw (e, take-length c.args.ready.now.entries) at (c.loop-i.invariant k past until at (c.wake.ensures k past until at 0 st))) refl)

pub returns-else-stop : goal.returns-else-stop
returns-else-stop c =
    let e : c.loop-i.i ≡ length c.args.ready.now.entries = omega arith in
    rw c.if-stop.false (λ k past until at st. rw (e, take-length c.args.ready.now.entries) at (c.loop-i.invariant k past until at (c.wake.ensures k past until at 0 st)))
