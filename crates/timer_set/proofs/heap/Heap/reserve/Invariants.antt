use Rattle.std.proofs.Common.{◌≡◌, ℕ, ◌+◌, ◌-◌, ◌<◌, ◌≤◌, vec_len, vec_capacity}
use Rattle.timer_set.specs.Order.{timer_at}
use Rattle.timer_set.proofs.heap.Heap.reserve.Given as goal

abbrev pub invariant-loop-self : goal.invariant-loop-self
invariant-loop-self l = record {
  len : vec_len l.initial.self.timers ≤ vec_len l.self.timers;
  wanted : vec_len l.self.timers ≤ l.wanted;
  capacity : l.wanted ≤ vec_capacity l.self.timers;
  places : vec_len l.self.places + (l.wanted - vec_len l.self.timers) ≤ vec_capacity l.self.places;
  live : l.self.live ≡ l.initial.self.live;
  timers : (place : ℕ) → place < vec_len l.initial.self.timers → timer_at l.self.timers.items place ≡ timer_at l.initial.self.timers.items place;
}

abbrev pub decreases-loop-self : goal.decreases-loop-self
decreases-loop-self l = l.wanted - vec_len l.self.timers
