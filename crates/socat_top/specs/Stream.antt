-- The stream of bytes that a number generates: a linear congruence modulo 2 ^ 31, of whose states the third byte counts.
use Rattle.std.specs.Prelude.{ℕ, zero, suc, ◌+◌, ◌*◌, ◌/◌, ◌%◌, ◌^◌, List, [], ◌∷◌}

-- the state in which the stream of a number begins
abbrev pub first_state : ℕ → ℕ
first_state n = n % 2 ^ 31

-- the state behind this one
abbrev pub next_state : ℕ → ℕ
next_state x = (1103515245 * x + 12345) % 2 ^ 31

-- the byte of a state
abbrev pub byte_of : ℕ → ℕ
byte_of x = x / 65536 % 256

-- the state so many steps behind this one
unfoldable pub state_after : ℕ → ℕ → ℕ
state_after zero x = x
state_after (suc k) x = state_after k (next_state x)

-- the bytes of so many states behind this one
unfoldable pub bytes_after : ℕ → ℕ → List ℕ
bytes_after zero x = []
bytes_after (suc k) x = byte_of (next_state x) ∷ bytes_after k (next_state x)

-- so many first bytes of the stream of a number
abbrev pub stream : ℕ → ℕ → List ℕ
stream n count = bytes_after count (first_state n)
