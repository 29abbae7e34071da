-- A port in memory: its script, what it took, and what its writes and hints answer.
use Rattle.std.specs.Prelude.{◌≡◌, ℕ, zero, suc, min, Bool, false, nat_lt, nat_le, List, take, Some, if◌then◌else◌}
use Rattle.port_trait.specs.{PortSeen, untold, PortCounts, Hint, Took}
use Rattle.port_trait.specs.declared.answers.Took.TheVariants as writes
use Rattle.port_objects.specs.Intakes.{IntakeState, fresh_intake, filled}
use Rattle.port_objects.specs.Scripts.{ScriptState, fresh_script, given_of, has_more}

-- what contracts see of a port in memory
pub record MemPortState : Type 0 where
  pub script : ScriptState
  pub intake : IntakeState
  pub counts : PortCounts
  pub begun : Bool
  pub ended : Bool

-- a port that was just made, with this room
abbrev pub fresh_port : ℕ → MemPortState
fresh_port room = record { script = fresh_script; intake = fresh_intake room; counts = record { faults = 0; ends = 0; empties = 0; stalls = 0 }; begun = false; ended = false }

-- readable where an item is left, writable where room is left
abbrev pub scripted_hint : MemPortState → Hint
scripted_hint port = record { readable = has_more port.script; writable = nat_lt 0 port.intake.room }

-- what such a port tells: what its script gave, what it took, and its hints
abbrev pub mem_seen : MemPortState → PortSeen
mem_seen port = record untold { gave = Some (given_of port.script); took = Some port.intake.bytes; hints = Some (scripted_hint port); hinting = scripted_hint port; counts = port.counts; begun = port.begun; ended = port.ended }

-- what a write of so many bytes answers: what fits
abbrev pub scripted_write : ℕ → ℕ → Took
scripted_write zero count = writes.NotYet
scripted_write (suc room) count = writes.Took (min count (suc room))

-- a packet waits until it fits as a whole
abbrev pub scripted_send : ℕ → ℕ → Took
scripted_send room count = if nat_le count room then writes.Took count else writes.NotYet

-- all fits, or it fails
abbrev pub scripted_put_all : ℕ → ℕ → Took
scripted_put_all room count = if nat_le count room then writes.Took count else writes.Failed

-- what a write leaves: the bytes that its answer says are taken, and nothing else is touched
abbrev pub intake_after : IntakeState → List ℕ → Took → IntakeState
intake_after intake bytes (writes.Took n) = filled intake (take n bytes)
intake_after intake bytes writes.NotYet = intake
intake_after intake bytes writes.Failed = intake

-- what a write changes of a port, and what it leaves
pub record KeptByWrite (before now : MemPortState) (bytes : List ℕ) (answer : Took) : Type 0 where
  pub intake : now.intake ≡ intake_after before.intake bytes answer
  pub script : now.script ≡ before.script
  pub begun : now.begun ≡ before.begun
  pub ended : now.ended ≡ before.ended
