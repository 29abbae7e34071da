-- The moments of keys, and the timers that have them.
use Rattle.std.specs.Prelude.{◌≡◌, ℕ, ◌+◌, ◌<◌, ◌≤◌, Some, List, map, slice_index}
use Rattle.std.specs.Ordering.{nat_cmp}
use Rattle.std.specs.FinMap.{FinMap, get, entries, from_entries}
use Rattle.timer_set.specs.declared.timer.Timer.{Timer}
use Rattle.key_map.specs.{Keyed}
use Rattle.timer_set.specs.Order.{timer_at}
use Rattle.timer_set.specs.Heaps.{IsHeap}

-- the slot of a timer
abbrev pub slot_of : Timer → ℕ
slot_of timer = timer.slot

-- the moment of a timer
abbrev pub at_of : Timer → ℕ
at_of timer = timer.at

-- the moment of the timer of this slot
abbrev pub moment_of : List Timer → List ℕ → ℕ → ℕ
moment_of timers places slot = (timer_at timers (slice_index places slot)).at

-- the moment of each key, from its slot
abbrev pub moments_of : List Timer → List ℕ → FinMap nat_cmp ℕ → FinMap nat_cmp ℕ
moments_of timers places slots = from_entries (map (λ (e : ℕ × ℕ). (e.0, moment_of timers places e.1)) (entries slots))

-- the map has the value of each of the first `live` timers at its key, and no other key
pub record Tells (value : Timer → ℕ) (timers : List Timer) (live : ℕ) (told : FinMap nat_cmp ℕ) : Type 0 where
  pub each : (place : ℕ) → place < live → get told (timer_at timers place).key ≡ Some (value (timer_at timers place))
  pub none_else : (key x : ℕ) → get told key ≡ Some x → (place : ℕ) × (place < live) × ((timer_at timers place).key ≡ key) × (value (timer_at timers place) ≡ x)

-- a heap of `live` timers, each found by its key, with room among the keys for as many as the heap has room for
pub record IsKeptHeap (timers : List Timer) (len live : ℕ) (keys : Keyed) : Type 0 where
  pub heap : IsHeap timers live
  pub slots : Tells slot_of timers live keys.values
  pub room : len ≤ live + keys.room
