use Rattle.std.proofs.Common.{◌≡◌, ◌-◌, ◌<◌, vec_len}
use Rattle.timer_set.specs.Heaps.{IsHeapBut, IsUnder, IsShuffled}
use Rattle.timer_set.proofs.heap.Heap.sink.Given as goal

abbrev pub invariant-loop-place : goal.invariant-loop-place
invariant-loop-place l = record {
  within : l.place < l.self.live;
  heap : IsHeapBut l.self.timers.items l.self.live l.place;
  under : IsUnder l.self.timers.items l.place;
  timers : IsShuffled l.initial.self.timers.items l.self.timers.items l.self.live;
  len : vec_len l.self.timers ≡ vec_len l.initial.self.timers;
  live : l.self.live ≡ l.initial.self.live;
}

abbrev pub decreases-loop-place : goal.decreases-loop-place
decreases-loop-place l = l.self.live - l.place
