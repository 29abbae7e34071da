-- What a ring counts beside the marks that it took.
use Rattle.std.specs.Prelude.{ℕ, ◌+◌, ◌-◌, ◌^◌, ◌≤◌, min}
use Rattle.port_trait.specs.{no_counts, with_fault, PortCounts}
use Rattle.ring_queue.specs.declared.tallies.RingTally.{RingTally}

-- counts that stand at their beginning
abbrev pub no_tally : RingTally
no_tally = record { counts = no_counts; misuses = 0 }

-- a call that a ring doesn't serve is one fault and one misuse
abbrev pub with_misuse : RingTally → RingTally
with_misuse tally = record { counts = with_fault tally.counts; misuses = min (tally.misuses + 1) (2 ^ 64 - 1) }

-- it fails only at fault marks and at calls that it doesn't serve, at each of those, and ends only at end marks
pub record IsTallied (misuses fault_marks end_marks : ℕ) (counts : PortCounts) : Type 0 where
  pub faults : counts.faults ≤ misuses + fault_marks
  pub misused : misuses ≤ counts.faults
  pub ends : counts.ends ≤ end_marks

-- a count rose so many times, or stands at its last value
abbrev pub RoseTimes : ℕ → ℕ → ℕ → Type 0
RoseTimes before times now = min (before + times) (2 ^ 64 - 1) ≤ now
