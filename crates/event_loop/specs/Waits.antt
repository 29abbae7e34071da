-- Until when the loop waits.
use Rattle.std.specs.Prelude.{◌≡◌, ◌⊎◌, ℕ, ◌≤◌, Option, Some, None}
use Rattle.event_loop.specs.declared.all_sessions.Sessions.{Sessions}
use Rattle.event_loop.specs.Courses.{timer_of}

-- this moment is the one given, or one that some session waits for
abbrev pub WaitsFor : Option ℕ → Sessions → ℕ → Type 0
WaitsFor first sessions m = (first ≡ Some m) ⊎ ((s : ℕ) × (timer_of sessions s ≡ Some m))

-- the least number of which this holds, where it holds of any
abbrev pub IsLeast : (ℕ → Type 0) → Option ℕ → Type 0
IsLeast P None = (m : ℕ) → P m → ⊥
IsLeast P (Some m) = P m × ((k : ℕ) → P k → m ≤ k)
