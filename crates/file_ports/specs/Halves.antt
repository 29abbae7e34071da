-- What contracts see of two halves.
use Rattle.std.specs.Prelude.{◌≡◌, Bool, true, false, not, ◌&&◌, Option, None, Some, IsSomeAnd}
use Rattle.relay_model.specs.{Part}
use Rattle.port_trait.specs.{no_hint, Hint}
use Rattle.file_ports.specs.declared.halves.HalfReadiness.{HalfReadiness}
use Rattle.file_ports.specs.declared.halves.HalfReadiness.TheVariants as readiness
use Rattle.file_ports.specs.Access.{reads_by, writes_by}

-- whether there is something to read from and something to write to, and who knows when they are ready
pub record HalvesState : Type 0 where
  pub reads : Bool
  pub writes : Bool
  pub readiness : HalfReadiness

-- this is done to what the half has, and a half that isn't there stays so
abbrev pub AtHalf : {T : Type 0} → (T → T → Type 0) → Option T → Option T → Type 0
AtHalf P None now = now ≡ None
AtHalf P (Some before) now = IsSomeAnd now (P before)

-- whether nothing reports them, since they are always ready
abbrev pub is_always : HalfReadiness → Bool
is_always readiness.Reported = false
is_always readiness.Always = true

-- a hint at these halves, where they are always ready
abbrev pub hint_by : HalfReadiness → Bool → Bool → Hint
hint_by readiness.Reported reads writes = no_hint
hint_by readiness.Always reads writes = record { readable = reads; writable = writes }

-- what is always ready hints at each half that is there, and what is reported hints at nothing
abbrev pub halves_hint : HalvesState → Hint
halves_hint halves = hint_by halves.readiness halves.reads halves.writes

-- the halves are those that the part uses
pub record AreOf (part : Part) (halves : HalvesState) : Type 0 where
  pub reads : halves.reads ≡ reads_by part
  pub writes : halves.writes ≡ writes_by part

-- a named pipe that waits for its other end: its use, and whether its writing was shut
pub record WaitingState : Type 0 where
  pub part : Part
  pub shut : Bool

-- the halves that it will have once it is open, which the poller reports
abbrev pub waiting_halves : WaitingState → HalvesState
waiting_halves pipe = record { reads = reads_by pipe.part; writes = writes_by pipe.part && not pipe.shut; readiness = readiness.Reported }
