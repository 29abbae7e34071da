-- What contracts see of a direction.
use Rattle.std.specs.Prelude.{ℕ, ◌+◌, Bool, true, false, nat_le, Option, is_some, if◌then◌else◌}
use Rattle.relay_model.specs.{Place, Shut}
use Rattle.relay_model.specs.declared.armings.Arming.{Arming}
use Rattle.relay_buffer.specs.{Flowing}

-- what is kept of one direction
pub record DirectionState : Type 0 where
  -- what the command says of it
  pub source : Place
  pub sink : Place
  pub ignores_end : Bool
  pub ends_at_empty : Bool
  pub sloppy : Bool
  pub how : Shut
  pub gathers : Bool
  -- its bytes
  pub flow : Flowing
  -- what is armed and was asked
  pub arming : Arming
  pub armed_out : Bool
  pub asked_in : Bool
  pub asked_out : Bool
  -- whether its end was met, and when it passed it or was broken
  pub ended : Bool
  pub passed_at : Option ℕ
  pub broken_at : Option ℕ

-- as many steps as a thing that hasn't happened may still take
abbrev pub unless : Bool → ℕ → ℕ
unless true steps = 0
unless false steps = steps

-- ---- further asks

-- what a read costs: nothing where the input wasn't asked since the last turn; where the output was asked since the last
-- read, the bytes may be written for nothing, which costs one more
abbrev pub read_price : DirectionState → ℕ
read_price d = if d.asked_in then (if d.asked_out then 2 else 1) else 0

-- what a write costs: nothing where the output wasn't asked since the last turn or the last read
abbrev pub write_price : DirectionState → ℕ
write_price d = if d.asked_out then 1 else 0

-- a read can be paid for
abbrev pub can_read : DirectionState → (extra : ℕ) → Bool
can_read d extra = nat_le (read_price d) extra

-- a write can be paid for
abbrev pub can_write : DirectionState → (extra : ℕ) → Bool
can_write d extra = nat_le (write_price d) extra

-- how many steps a direction takes at most for nothing before the next turn: bytes that are read may be written at once
abbrev pub steps_in : DirectionState → ℕ
steps_in d = unless d.asked_in 2 + unless d.asked_out 1 + unless (is_some d.passed_at) 1
