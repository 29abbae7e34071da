use Rattle.std.proofs.Common.{subst}
use Rattle.timer_set.specs.Heaps.{IsShuffled}
use Rattle.timer_set.proofs.Heaps.{shuffled_twice}
use Rattle.timer_set.proofs.heap.Heap.settle.Goals as goal

pub returns-clause-timers : goal.returns-clause-timers
returns-clause-timers c =
    shuffled_twice _ _ _ _ c.rise-place.ensures.timers (subst (λ n. IsShuffled c.rise-place.new.self.timers.items c.sink.new.self.timers.items n) c.rise-place.ensures.live c.sink.ensures.timers)
