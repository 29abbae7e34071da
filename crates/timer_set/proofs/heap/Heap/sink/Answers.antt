use Rattle.std.proofs.Common.{◌≡◌, ◌<◌, ◌≤◌, vec_len, length, sym, subst, arith}
use Rattle.timer_set.specs.Heaps.{IsHeapBut, IsShuffled}
use Rattle.timer_set.proofs.Heaps.{ordered_at, sunk, sunk_under, shuffled_twice, shuffled_swap}
use Rattle.timer_set.proofs.heap.Heap.sink.Goals as goal

pub loop-place-preserved : goal.loop-place-preserved
loop-place-preserved c =
    let before : vec_len c.loop-place.self.timers ≡ length c.loop-place.self.timers.items = c.loop-place.self.timers.ok.0 in
    let bound : c.loop-place.self.live ≤ vec_len c.loop-place.self.timers = c.loop-place.self.within in
    let within : c.loop-place.place < c.loop-place.self.live = c.loop-place.invariant.within in
    let below : c.first_child-child.result < c.loop-place.self.live = c.first_child-child.ensures.within in
    let in_child : c.first_child-child.result < length c.loop-place.self.timers.items = omega arith in
    let in_place : c.loop-place.place < length c.loop-place.self.timers.items = omega arith in
    let less = ordered_at _ _ _ _ _ in_child in_place c.index.ensures c.index-in-loop-place.ensures c.if-not-is_before.ensures in
    let swapped = c.exchange.ensures.swapped in
    record {
      within = omega arith;
      heap = subst (λ n. IsHeapBut c.exchange.new.self.timers.items n c.first_child-child.result) (sym c.exchange.ensures.live) (sunk _ _ _ _ _ within c.first_child-child.ensures swapped less c.loop-place.invariant.heap);
      under = sunk_under _ _ _ _ _ c.first_child-child.ensures swapped less;
      timers = subst (λ n. IsShuffled c.args.self.now.timers.items c.exchange.new.self.timers.items n) (sym c.exchange.ensures.live) (shuffled_twice _ _ _ _ c.loop-place.invariant.timers (shuffled_swap _ _ _ _ _ within below swapped));
      len = omega arith;
      live = omega arith;
    }
