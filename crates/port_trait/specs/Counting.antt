-- What an answer makes of the counts that are its cause.
use Rattle.std.specs.Prelude.{◌≡◌, ℕ, ◌+◌, ◌-◌, ◌^◌, ◌≤◌, min, Bool, true, Option, None, Some}
use Rattle.port_trait.specs.declared.counts.PortCounts.{PortCounts}

-- a count rose, or stands at its last value
abbrev pub Rose : ℕ → ℕ → Type 0
Rose before now = min (before + 1) (2 ^ 64 - 1) ≤ now

-- a count never falls, and rises where what it counts has happened
pub record Counted (happened : Bool) (before now : ℕ) : Type 0 where
  pub grew : before ≤ now
  pub rose : happened ≡ true → Rose before now

-- what an answer of a port may need a cause for
pub data Event : Type 0 where
  Fault : Event
  End : Event
  Empty : Event
  Stall : Event

-- no count of a port falls
pub record Grew (before now : PortCounts) : Type 0 where
  pub faults : before.faults ≤ now.faults
  pub ends : before.ends ≤ now.ends
  pub empties : before.empties ≤ now.empties
  pub stalls : before.stalls ≤ now.stalls

-- the count of this event rose
abbrev pub RoseBy : Option Event → PortCounts → PortCounts → Type 0
RoseBy None before now = Unit {0}
RoseBy (Some Fault) before now = Rose before.faults now.faults
RoseBy (Some End) before now = Rose before.ends now.ends
RoseBy (Some Empty) before now = Rose before.empties now.empties
RoseBy (Some Stall) before now = Rose before.stalls now.stalls

-- no count falls, and that of the event rises
abbrev pub Tallied : Option Event → PortCounts → PortCounts → Type 0
Tallied event before now = Grew before now × RoseBy event before now
