-- A poller in memory: the moment that it has come to, the one until which it was asked to wait last, what it names next
-- and what it named last.
use Rattle.std.specs.Prelude.{ℕ, max, List, [], Option, None, Some}
use Rattle.relay_model.specs.{Half}
use Rattle.port_trait.specs.{KeysListed}

-- what contracts see of a poller in memory
pub record MemPollerState : Type 0 where
  pub clock : ℕ
  pub asked : Option ℕ
  pub next : List (ℕ × Half)
  pub last : List (ℕ × Half)

-- a poller that will name these keys
abbrev pub fresh_poller : List (ℕ × Half) → MemPollerState
fresh_poller keys = record { clock = 0; asked = None; next = keys; last = [] }

-- the keys of a list, if there is one
abbrev pub entries_of : Option KeysListed → List (ℕ × Half)
entries_of None = []
entries_of (Some keys) = keys.entries

-- a poll comes to its moment, and never goes back
abbrev pub clock_after : ℕ → Option ℕ → ℕ
clock_after clock None = clock
clock_after clock (Some moment) = max clock moment
