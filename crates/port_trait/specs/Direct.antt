-- What contracts see of the ports that call their source or sink in the call itself.
use Rattle.std.specs.Prelude.{◌≡◌, ◌+◌, ◌-◌, ◌^◌, min, Bool, false}
use Rattle.port_trait.specs.declared.counts.PortCounts.{PortCounts}
use Rattle.port_trait.specs.Counting.{Tallied}
use Rattle.port_trait.specs.Meanings.{write_event}
use Rattle.port_trait.specs.declared.answers.Took.{Took}
use Rattle.port_trait.specs.declared.answers.Took.TheVariants as writes

-- counts that stand at their beginning
abbrev pub no_counts : PortCounts
no_counts = record { faults = 0; ends = 0; empties = 0; stalls = 0 }

-- one fault more
abbrev pub with_fault : PortCounts → PortCounts
with_fault counts = record counts { faults = min (counts.faults + 1) (2 ^ 64 - 1) }

-- the source that is read, what was counted, whether a begin came, and whether the last read answered the end
pub record DirectReading (S : Type 0) : Type 0 where
  pub source : S
  pub counts : PortCounts
  pub begun : Bool
  pub ended : Bool

-- a reading port that was just made over a source
abbrev pub fresh_reading : {S : Type 0} → S → DirectReading S
fresh_reading source = record { source = source; counts = no_counts; begun = false; ended = false }

-- the sink that is written to, and the like
pub record DirectWriting (K : Type 0) : Type 0 where
  pub sink : K
  pub counts : PortCounts
  pub begun : Bool
  pub ended : Bool

-- a writing port that was just made over a sink
abbrev pub fresh_writing : {K : Type 0} → K → DirectWriting K
fresh_writing sink = record { sink = sink; counts = no_counts; begun = false; ended = false }

-- a write at a port that takes none: it fails, and is counted
pub record WriteRefused (answer : Took) (before now : PortCounts) : Type 0 where
  pub failed : answer ≡ writes.Failed
  pub counted : now ≡ with_fault before
  pub counts : Tallied (write_event answer) before now
