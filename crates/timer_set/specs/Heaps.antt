-- Binary heaps of timers in a list.
use Rattle.std.specs.Prelude.{◌≡◌, ◌≢◌, ℕ, ◌-◌, ◌/◌, ◌<◌, List, length, slice_index, slice_set}
use Rattle.timer_set.specs.declared.timer.Timer.{Timer}
use Rattle.timer_set.specs.Order.{timer_at, IsNoLater}

-- each timer's slot has the timer's place
pub record HasPlaces (timers : List Timer) (places : List ℕ) : Type 0 where
  pub within : (place : ℕ) → place < length timers → (timer_at timers place).slot < length places
  pub placed : (place : ℕ) → place < length timers → slice_index places (timer_at timers place).slot ≡ place

-- the place above this one
abbrev pub parent : ℕ → ℕ
parent place = (place - 1) / 2

-- none of the first `live` timers falls due before the one above it
abbrev pub IsHeap : List Timer → ℕ → Type 0
IsHeap timers live = (place : ℕ) → 0 < place → place < live → IsNoLater (timer_at timers (parent place)) (timer_at timers place)

-- a heap, whatever timer stands at `hole`
pub record IsHeapBut (timers : List Timer) (live hole : ℕ) : Type 0 where
  pub apart : (place : ℕ) → 0 < place → place < live → place ≢ hole → parent place ≢ hole → IsNoLater (timer_at timers (parent place)) (timer_at timers place)
  pub across : (place : ℕ) → 0 < hole → 0 < place → place < live → parent place ≡ hole → IsNoLater (timer_at timers (parent hole)) (timer_at timers place)

-- the timer at `place` falls due no earlier than the one above it
abbrev pub IsUnder : List Timer → ℕ → Type 0
IsUnder timers place = 0 < place → IsNoLater (timer_at timers (parent place)) (timer_at timers place)

-- `child` stands below `place`, and falls due no later than any other that does
pub record IsFirstChild (timers : List Timer) (live place child : ℕ) : Type 0 where
  pub within : child < live
  pub below : 0 < child
  pub parent_is : parent child ≡ place
  pub first : (other : ℕ) → 0 < other → other < live → parent other ≡ place → IsNoLater (timer_at timers child) (timer_at timers other)

-- the first `live` timers are the same, maybe in another order
pub record IsShuffled (old new : List Timer) (live : ℕ) : Type 0 where
  pub kept : (place : ℕ) → place < live → (now : ℕ) × (now < live) × (timer_at new now ≡ timer_at old place)
  pub came : (place : ℕ) → place < live → (was : ℕ) × (was < live) × (timer_at new place ≡ timer_at old was)

-- the first `live` timers are the same but for the one at `place`, which is gone
pub record IsWithout (old new : List Timer) (live place : ℕ) : Type 0 where
  pub kept : (other : ℕ) → other < live → other ≢ place → (now : ℕ) × (now < live - 1) × (timer_at new now ≡ timer_at old other)
  pub came : (other : ℕ) → other < live - 1 → (was : ℕ) × (was < live) × (was ≢ place) × (timer_at new other ≡ timer_at old was)

-- the timers with another moment for the one at `place`
abbrev pub with_moment : List Timer → ℕ → ℕ → List Timer
with_moment timers place moment = slice_set timers place (record { at = moment; key = (timer_at timers place).key; slot = (timer_at timers place).slot })
