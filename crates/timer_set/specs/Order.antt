-- Timers in a list, and which of two falls due first.
use Rattle.std.specs.Prelude.{◌≡◌, ℕ, ◌≤◌, Bool, true, false, List, slice_index_or}
use Rattle.timer_set.specs.declared.timer.Timer.{Timer}

-- the timer at `place`
abbrev pub timer_at : List Timer → ℕ → Timer
timer_at timers place = slice_index_or timers place (record { at = 0; key = 0; slot = 0 })

-- `a` falls due at an earlier moment than `b`, or at the same and its key isn't the greater
pub record IsNoLater (a b : Timer) : Type 0 where
  pub moment : a.at ≤ b.at
  pub key : a.at ≡ b.at → a.key ≤ b.key

-- whether `a` comes before `b`
abbrev pub IsInOrder : Bool → Timer → Timer → Type 0
IsInOrder true a b = IsNoLater a b
IsInOrder false a b = IsNoLater b a
