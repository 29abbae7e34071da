-- What contracts see of a world.
use Rattle.std.specs.Prelude.{◌≡◌, ◌≤◌, ℕ, Option}
use Rattle.relay_model.specs.{Place, Hold, Free}
use Rattle.relay_model.specs.Journals.{History}

-- its history, where it tells it; how each place stands; its counts of faults, waits and stops, which never fall and
-- stay at their last value; and the moment of the last turn, in milliseconds since the run began
pub record Seen : Type 0 where
  pub told : Option History
  pub held : Place → Hold
  pub faults : ℕ
  pub waits : ℕ
  pub stops : ℕ
  pub clock : ℕ

-- no count of waits, and no clock, moves by a call that is no wait
pub record Waitless (old new : Seen) : Type 0 where
  pub waits : new.waits ≡ old.waits
  pub stops : old.stops ≤ new.stops
  pub clock : new.clock ≡ old.clock

-- nothing is held, and nothing was counted
pub record IsFresh (now : Seen) : Type 0 where
  pub held : (p : Place) → now.held p ≡ Free
  pub no_faults : now.faults ≡ 0
  pub no_waits : now.waits ≡ 0
  pub no_stops : now.stops ≡ 0
  pub clock : now.clock ≡ 0

-- nothing was done, and nothing counted
pub record SameRun (old new : Seen) : Type 0 where
  pub told : new.told ≡ old.told
  pub held : (p : Place) → new.held p ≡ old.held p
  pub faults : new.faults ≡ old.faults
  pub waits : new.waits ≡ old.waits
  pub stops : new.stops ≡ old.stops
  pub clock : new.clock ≡ old.clock
