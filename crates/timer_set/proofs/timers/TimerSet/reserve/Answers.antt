use Rattle.std.proofs.Common.{◌≡◌, ◌≤◌, vec_len, length, ap, arith}
use Rattle.std.proofs.lemmas.Result.{on_err_weaker}
use Rattle.timer_set.specs.Timers.{Timers}
use Rattle.timer_set.proofs.Kept.{moments_same, same_timers}
use Rattle.timer_set.proofs.timers.TimerSet.reserve.Goals as goal

pub returns-clause-moments : goal.returns-clause-moments
returns-clause-moments c =
    let old : vec_len c.self.inside.heap.timers ≡ length c.self.inside.heap.timers.items = c.self.inside.heap.timers.ok.0 in
    let new : vec_len c.reserve-2.new.self.timers ≡ length c.reserve-2.new.self.timers.items = c.reserve-2.new.self.timers.ok.0 in
    let bound : c.self.inside.heap.live ≤ vec_len c.self.inside.heap.timers = c.self.inside.heap.within in
    let longer : vec_len c.self.inside.heap.timers ≤ vec_len c.reserve-2.new.self.timers = c.reserve-2.ensures.len in
    moments_same _ _ _ _ _ c.self.inside.heap.placed (omega arith) c.self.invariant.slots (ap (λ (t : Timers). t.moments) c.self.view_is) _ _ c.reserve-2.new.self.placed _ (omega arith) (λ i h. c.reserve-2.ensures.timers i (omega arith)) c.reserve.ensures.values

pub returns-clause-refused : goal.returns-clause-refused
returns-clause-refused c =
    let is = ap (λ (t : Timers). t.room) c.self.view_is in
    let live : c.reserve-2.new.self.live ≡ c.self.inside.heap.live = c.reserve-2.ensures.live in
    on_err_weaker c.reserve-2.result
    (λ (same : vec_len c.reserve-2.new.self.timers ≡ vec_len c.self.inside.heap.timers). same_timers _ _ c.args.self.now (returns-clause-moments c) (omega arith))
    c.reserve-2.ensures.refused
