use Rattle.std.proofs.Common.{◌≡◌, ◌≤◌, ◌+◌, ◌-◌, vec_len, length, ap, sym, ◌∙◌, arith}
use Rattle.std.specs.FinMap.{get}
use Rattle.timer_set.specs.Timers.{Timers}
use Rattle.key_map.proofs.Found.{chosen_some, chosen_none}
use Rattle.timer_set.proofs.Told.{moment_got, moment_missed}
use Rattle.timer_set.proofs.Kept.{slots_changed, moments_changed, slots_more, moments_more}
use Rattle.timer_set.proofs.timers.TimerSet.set.Goals as goal

pub invariant_of-self : goal.invariant_of-self
invariant_of-self c =
    let old : vec_len c.self.inside.heap.timers ≡ length c.self.inside.heap.timers.items = c.self.inside.heap.timers.ok.0 in
    let bound : c.self.inside.heap.live ≤ vec_len c.self.inside.heap.timers = c.self.inside.heap.within in
    let room : vec_len c.self.inside.heap.timers ≤ c.self.inside.heap.live + c.self.inside.slots.room = c.self.invariant.room in
    let slots = slots_changed _ _ _ _ _ c.self.inside.heap.placed (omega arith) c.self.invariant.slots (ap (λ (t : Timers). t.moments) c.self.view_is) _ _ c.change.new.self.placed _ _ (sym c.in-Some.ensures) _ c.change.ensures.timers in
    record {
      heap = c.change.ensures.heap;
      slots = rw c.change.ensures.live slots;
      room = omega (arith, c.change.ensures.live, c.change.ensures.len);
    }

pub returns-in-Some-clause-moments : goal.returns-in-Some-clause-moments
returns-in-Some-clause-moments c =
    let old : vec_len c.self.inside.heap.timers ≡ length c.self.inside.heap.timers.items = c.self.inside.heap.timers.ok.0 in
    let new : vec_len c.change.new.self.timers ≡ length c.change.new.self.timers.items = c.change.new.self.timers.ok.0 in
    let bound : c.self.inside.heap.live ≤ vec_len c.self.inside.heap.timers = c.self.inside.heap.within in
    let same_len : vec_len c.change.new.self.timers ≡ vec_len c.self.inside.heap.timers = c.change.ensures.len in
    moments_changed _ _ _ _ _ c.self.inside.heap.placed (omega arith) c.self.invariant.slots (ap (λ (t : Timers). t.moments) c.self.view_is) _ _ c.change.new.self.placed _ _ (sym c.in-Some.ensures) _ c.change.ensures.timers (omega arith)

pub returns-in-Some-clause-room : goal.returns-in-Some-clause-room
returns-in-Some-clause-room c =
    let is = ap (λ (t : Timers). t.room) c.self.view_is in
    let found = ap (λ m. get m c.args.key) (sym (ap (λ (t : Timers). t.moments) c.self.view_is)) ∙ moment_got c.self.inside.heap.timers.items c.self.inside.heap.places.items _ _ _ (sym c.in-Some.ensures) in
    let left : vec_len c.change.new.self.timers - c.change.new.self.live ≡ c.args.self.now.room = omega (arith, c.change.ensures.live, c.change.ensures.len) in
    left ∙ sym (chosen_some _ _ _ _ found)

pub insert-slot-requires-clause-room : goal.insert-slot-requires-clause-room
insert-slot-requires-clause-room c =
    let is = ap (λ (t : Timers). t.room) c.self.view_is in
    let missed = ap (λ m. get m c.args.key) (sym (ap (λ (t : Timers). t.moments) c.self.view_is)) ∙ moment_missed c.self.inside.heap.timers.items c.self.inside.heap.places.items _ _ (sym c.in-None.ensures) in
    let some = c.requires missed in
    omega arith

pub invariant_of-self-in-None : goal.invariant_of-self-in-None
invariant_of-self-in-None c =
    let old : vec_len c.self.inside.heap.timers ≡ length c.self.inside.heap.timers.items = c.self.inside.heap.timers.ok.0 in
    let bound_new : c.insert-slot.new.self.live ≤ vec_len c.insert-slot.new.self.timers = c.insert-slot.new.self.within in
    let one : c.insert-slot.new.self.live ≡ c.self.inside.heap.live + 1 = c.insert-slot.ensures.live in
    let same_len : vec_len c.insert-slot.new.self.timers ≡ vec_len c.self.inside.heap.timers = c.insert-slot.ensures.len in
    let room : vec_len c.self.inside.heap.timers ≤ c.self.inside.heap.live + c.self.inside.slots.room = c.self.invariant.room in
    let less : c.put.new.self.room ≡ c.self.inside.slots.room - 1 = c.put.ensures.room ∙ chosen_none _ _ _ (sym c.in-None.ensures) in
    record {
      heap = c.insert-slot.ensures.heap;
      slots = slots_more _ _ _ _ _ c.self.inside.heap.placed (omega arith) c.self.invariant.slots (ap (λ (t : Timers). t.moments) c.self.view_is) _ _ c.insert-slot.new.self.placed _ _ _ _ _ (sym c.in-None.ensures) (omega arith) one c.insert-slot.ensures.timers c.put.ensures.values;
      room = omega arith;
    }

pub returns-in-None-clause-moments : goal.returns-in-None-clause-moments
returns-in-None-clause-moments c =
    let old : vec_len c.self.inside.heap.timers ≡ length c.self.inside.heap.timers.items = c.self.inside.heap.timers.ok.0 in
    let new : vec_len c.insert-slot.new.self.timers ≡ length c.insert-slot.new.self.timers.items = c.insert-slot.new.self.timers.ok.0 in
    let bound_new : c.insert-slot.new.self.live ≤ vec_len c.insert-slot.new.self.timers = c.insert-slot.new.self.within in
    let one : c.insert-slot.new.self.live ≡ c.self.inside.heap.live + 1 = c.insert-slot.ensures.live in
    let same_len : vec_len c.insert-slot.new.self.timers ≡ vec_len c.self.inside.heap.timers = c.insert-slot.ensures.len in
    moments_more _ _ _ _ _ c.self.inside.heap.placed (omega arith) c.self.invariant.slots (ap (λ (t : Timers). t.moments) c.self.view_is) _ _ c.insert-slot.new.self.placed _ _ _ _ _ (sym c.in-None.ensures) (omega arith) one c.insert-slot.ensures.timers c.put.ensures.values (omega arith)

pub returns-in-None-clause-room : goal.returns-in-None-clause-room
returns-in-None-clause-room c =
    let is = ap (λ (t : Timers). t.room) c.self.view_is in
    let missed = ap (λ m. get m c.args.key) (sym (ap (λ (t : Timers). t.moments) c.self.view_is)) ∙ moment_missed c.self.inside.heap.timers.items c.self.inside.heap.places.items _ _ (sym c.in-None.ensures) in
    let one : c.insert-slot.new.self.live ≡ c.self.inside.heap.live + 1 = c.insert-slot.ensures.live in
    let same_len : vec_len c.insert-slot.new.self.timers ≡ vec_len c.self.inside.heap.timers = c.insert-slot.ensures.len in
    let left : vec_len c.insert-slot.new.self.timers - c.insert-slot.new.self.live ≡ c.args.self.now.room - 1 = omega arith in
    left ∙ sym (chosen_none _ _ _ missed)
