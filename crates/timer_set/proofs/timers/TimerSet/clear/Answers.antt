use Rattle.std.proofs.Common.{◌≡◌, ◌≤◌, ◌+◌, ◌-◌, vec_len, length, ap, sym, ◌∙◌, arith}
use Rattle.std.specs.FinMap.{get}
use Rattle.timer_set.specs.Timers.{Timers}
use Rattle.key_map.proofs.Found.{chosen_some, chosen_none, same_without}
use Rattle.timer_set.proofs.Told.{moment_got, moment_missed}
use Rattle.timer_set.proofs.Kept.{slots_without, moments_without}
use Rattle.timer_set.proofs.timers.TimerSet.clear.Goals as goal

pub invariant_of-self : goal.invariant_of-self
invariant_of-self c =
    let old : vec_len c.self.inside.heap.timers ≡ length c.self.inside.heap.timers.items = c.self.inside.heap.timers.ok.0 in
    let bound : c.self.inside.heap.live ≤ vec_len c.self.inside.heap.timers = c.self.inside.heap.within in
    let room : vec_len c.self.inside.heap.timers ≤ c.self.inside.heap.live + c.self.inside.slots.room = c.self.invariant.room in
    let more : c.remove.new.self.room ≡ c.self.inside.slots.room + 1 = c.in-Some.ensures.room ∙ chosen_some _ _ _ _ (sym c.in-Some.ensures.value) in
    record {
      heap = c.remove-in-Some.ensures.heap;
      slots = slots_without _ _ _ _ _ c.self.inside.heap.placed (omega arith) c.self.invariant.slots (ap (λ (t : Timers). t.moments) c.self.view_is) _ _ c.remove-in-Some.new.self.placed _ _ (sym c.in-Some.ensures.value) _ _ c.remove-in-Some.ensures.live c.remove-in-Some.ensures.timers c.in-Some.ensures.values;
      room = omega (arith, c.remove-in-Some.ensures.live, c.remove-in-Some.ensures.len);
    }

pub returns-in-Some-clause-moments : goal.returns-in-Some-clause-moments
returns-in-Some-clause-moments c =
    let old : vec_len c.self.inside.heap.timers ≡ length c.self.inside.heap.timers.items = c.self.inside.heap.timers.ok.0 in
    let new : vec_len c.remove-in-Some.new.self.timers ≡ length c.remove-in-Some.new.self.timers.items = c.remove-in-Some.new.self.timers.ok.0 in
    let bound : c.self.inside.heap.live ≤ vec_len c.self.inside.heap.timers = c.self.inside.heap.within in
    let bound_new : c.remove-in-Some.new.self.live ≤ vec_len c.remove-in-Some.new.self.timers = c.remove-in-Some.new.self.within in
    moments_without _ _ _ _ _ c.self.inside.heap.placed (omega arith) c.self.invariant.slots (ap (λ (t : Timers). t.moments) c.self.view_is) _ _ c.remove-in-Some.new.self.placed _ _ (sym c.in-Some.ensures.value) _ _ c.remove-in-Some.ensures.live c.remove-in-Some.ensures.timers c.in-Some.ensures.values (omega arith)

pub returns-in-Some-clause-room : goal.returns-in-Some-clause-room
returns-in-Some-clause-room c =
    let is = ap (λ (t : Timers). t.room) c.self.view_is in
    let bound : c.self.inside.heap.live ≤ vec_len c.self.inside.heap.timers = c.self.inside.heap.within in
    let found = ap (λ m. get m c.args.key) (sym (ap (λ (t : Timers). t.moments) c.self.view_is)) ∙ moment_got c.self.inside.heap.timers.items c.self.inside.heap.places.items _ _ _ (sym c.in-Some.ensures.value) in
    let left : vec_len c.remove-in-Some.new.self.timers - c.remove-in-Some.new.self.live ≡ c.args.self.now.room + 1 = omega (arith, c.remove-in-Some.ensures.live, c.remove-in-Some.ensures.len) in
    left ∙ sym (chosen_some _ _ _ _ found)

pub invariant_of-self-in_default : goal.invariant_of-self-in_default
invariant_of-self-in_default c =
    let same = c.in_default.ensures.values ∙ sym (same_without _ _ (sym c.in_default.ensures.value)) in
    let room : vec_len c.self.inside.heap.timers ≤ c.self.inside.heap.live + c.self.inside.slots.room = c.self.invariant.room in
    let kept : c.remove.new.self.room ≡ c.self.inside.slots.room = c.in_default.ensures.room ∙ chosen_none _ _ _ (sym c.in_default.ensures.value) in
    record {
      heap = c.self.invariant.heap;
      slots = rw same c.self.invariant.slots;
      room = omega arith;
    }

pub returns-in_default-clause-moments : goal.returns-in_default-clause-moments
returns-in_default-clause-moments c =
    let same = c.in_default.ensures.values ∙ sym (same_without _ _ (sym c.in_default.ensures.value)) in
    let view = ap (λ (t : Timers). t.moments) c.self.view_is in
    let missed = ap (λ m. get m c.args.key) (sym view) ∙ moment_missed c.self.inside.heap.timers.items c.self.inside.heap.places.items _ _ (sym c.in_default.ensures.value) in
    rw same (view ∙ same_without _ _ missed)

pub returns-in_default-clause-room : goal.returns-in_default-clause-room
returns-in_default-clause-room c =
    let view = ap (λ (t : Timers). t.moments) c.self.view_is in
    let missed = ap (λ m. get m c.args.key) (sym view) ∙ moment_missed c.self.inside.heap.timers.items c.self.inside.heap.places.items _ _ (sym c.in_default.ensures.value) in
    ap (λ (t : Timers). t.room) c.self.view_is ∙ sym (chosen_none _ _ _ missed)
