use Rattle.std.proofs.Common.{◌≡◌, ◌≤◌, vec_len, length, ap, arith}
use Rattle.timer_set.specs.Timers.{Timers}
use Rattle.timer_set.proofs.Kept.{first_is, told_moments}
use Rattle.timer_set.proofs.timers.TimerSet.first.Goals as goal

pub returns : goal.returns
returns c =
    let old : vec_len c.self.inside.heap.timers ≡ length c.self.inside.heap.timers.items = c.self.inside.heap.timers.ok.0 in
    let bound : c.self.inside.heap.live ≤ vec_len c.self.inside.heap.timers = c.self.inside.heap.within in
    first_is _ _ _ _ c.self.invariant.heap (told_moments _ _ _ _ _ c.self.inside.heap.placed (omega arith) c.self.invariant.slots (ap (λ (t : Timers). t.moments) c.self.view_is)) c.first.ensures.none c.first.ensures.some
