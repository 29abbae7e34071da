use Rattle.std.proofs.Common.{◌≡◌, refl, arith}
use Rattle.timer_set.specs.Moments.{slot_of, at_of}
use Rattle.timer_set.proofs.Told.{told_alike, tells_moments}
use Rattle.timer_set.proofs.Kept.{tells_empty}
use Rattle.timer_set.proofs.timers.TimerSet.new.Goals as goal

pub invariant_of-result : goal.invariant_of-result
invariant_of-result c = record {
  heap = λ place lo hi. absurd (omega (arith, c.new-2.ensures.live));
  slots = tells_empty slot_of _ _ _ c.new-2.ensures.live c.new.ensures;
  room = omega (arith, c.new-2.ensures.len);
}

pub returns-clause-moments : goal.returns-clause-moments
returns-clause-moments c =
    let none : c.new-2.result.live ≡ 0 = c.new-2.ensures.live in
    told_alike at_of _ _ _ _ (tells_moments _ _ _ _ c.new-2.result.placed (omega arith) (tells_empty slot_of _ _ _ none c.new.ensures)) (tells_empty at_of _ _ _ none refl)
