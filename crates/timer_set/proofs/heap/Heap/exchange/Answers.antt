use Rattle.std.proofs.Common.{◌≡◌, ◌<◌, vec_len, length, ap, arith}
use Rattle.timer_set.specs.declared.timer.Timer.{Timer}
use Rattle.timer_set.proofs.Heaps.{read, exchanged_places}
use Rattle.timer_set.proofs.heap.Heap.exchange.Goals as goal

pub invariant_of-self-clause-placed : goal.invariant_of-self-clause-placed
invariant_of-self-clause-placed c =
    let before : vec_len c.args.self.now.timers ≡ length c.args.self.now.timers.items = c.args.self.now.timers.ok.0 in
    let after : vec_len c.swap.new.self ≡ length c.swap.new.self.items = c.swap.new.self.ok.0 in
    let in_a : c.args.a < length c.swap.new.self.items = omega arith in
    let in_b : c.args.b < length c.swap.new.self.items = omega arith in
    exchanged_places _ _ _ _ _ _ _ c.args.self.now.placed (omega arith) (omega arith) c.requires.apart (omega arith) c.swap.ensures.by_index
    (ap (λ (t : Timer). t.slot) (read _ _ _ in_a c.index.ensures)) (ap (λ (t : Timer). t.slot) (read _ _ _ in_b c.index-2.ensures))
