-- How far a count rose.
use Rattle.std.proofs.Common.{◌≡◌, ℕ, ◌-◌, ◌^◌, ◌≤◌, max, Bool, true, false, refl, arith}
use Rattle.std.specs.Prelude.{nat_lt, if◌then◌else◌}
use Rattle.std.proofs.lemmas.Bool.{ltb-true}
use Rattle.port_trait.specs.Serving.{rise}
use Rattle.ring_queue.specs.Tallies.{RoseTimes}

-- what was seen to happen is no more than the rise of its count
pub seen_in_rise : (before now seen : ℕ) → RoseTimes before seen now → seen ≤ rise before now seen
seen_in_rise before now seen rose = seen_within (nat_lt now (2 ^ 64 - 1)) refl
  where
    seen_within : (low : Bool) → nat_lt now (2 ^ 64 - 1) ≡ low → seen ≤ (if low then now - before else max (now - before) seen)
    seen_within true is = omega (arith, rose, ltb-true now (2 ^ 64 - 1) is)
    seen_within false is = omega arith
