-- What is counted of an answer.
use Rattle.std.specs.Prelude.{ℕ, ◌+◌, ◌-◌, ◌^◌, min, Option, None, Some}
use Rattle.port_trait.specs.Counting.{Event, Fault, End, Empty, Stall}
use Rattle.port_trait.specs.declared.counts.PortCounts.{PortCounts}

-- one more, up to the last value
abbrev pub risen : ℕ → ℕ
risen n = min (n + 1) (2 ^ 64 - 1)

-- the count of this event, and no other, is one more
abbrev pub counted : Option Event → PortCounts → PortCounts
counted None counts = counts
counted (Some Fault) counts = record counts { faults = risen counts.faults }
counted (Some End) counts = record counts { ends = risen counts.ends }
counted (Some Empty) counts = record counts { empties = risen counts.empties }
counted (Some Stall) counts = record counts { stalls = risen counts.stalls }
