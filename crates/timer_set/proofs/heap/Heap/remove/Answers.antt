use Rattle.std.proofs.Common.{◌≡◌, ◌+◌, ◌-◌, ◌<◌, vec_len, length, slice_index, subst, ◌∙◌, arith}
use Rattle.std.proofs.lemmas.Grind.{get_or_default_zero}
use Rattle.timer_set.specs.Heaps.{IsShuffled, IsWithout}
use Rattle.timer_set.proofs.Heaps.{without_swapped, without_last}
use Rattle.timer_set.proofs.heap.Heap.remove.Goals as goal

pub returns-then-place-last-clause-timers : goal.returns-then-place-last-clause-timers
returns-then-place-last-clause-timers c =
    let len : vec_len c.args.self.now.places ≡ length c.args.self.now.places.items = c.args.self.now.places.ok.0 in
    let in_places : c.args.slot < length c.args.self.now.places.items = omega (arith, c.requires.slot) in
    let is : c.index-place.result.now ≡ slice_index c.args.self.now.places.items c.args.slot = c.index-place.ensures ∙ get_or_default_zero _ _ _ in_places in
    let standing : slice_index c.args.self.now.places.items c.args.slot < c.args.self.now.live = c.requires.place in
    let last : c.args.self.now.live ≡ (c.args.self.now.live - 1) + 1 = omega arith in
    let mixed = subst (λ n. IsShuffled c.exchange.new.self.timers.items c.settle.new.self.timers.items n) c.exchange.ensures.live c.settle.ensures.timers in
    subst (λ p. IsWithout c.args.self.now.timers.items c.settle.new.self.timers.items c.args.self.now.live p) is
    (without_swapped _ _ _ _ _ _ last c.if-place-last.true c.exchange.ensures.swapped mixed)

pub returns-else-place-last-clause-timers : goal.returns-else-place-last-clause-timers
returns-else-place-last-clause-timers c =
    let len : vec_len c.args.self.now.places ≡ length c.args.self.now.places.items = c.args.self.now.places.ok.0 in
    let in_places : c.args.slot < length c.args.self.now.places.items = omega (arith, c.requires.slot) in
    let is : c.index-place.result.now ≡ slice_index c.args.self.now.places.items c.args.slot = c.index-place.ensures ∙ get_or_default_zero _ _ _ in_places in
    let standing : slice_index c.args.self.now.places.items c.args.slot < c.args.self.now.live = c.requires.place in
    without_last _ _ _ (omega (arith, c.if-place-last.false))
