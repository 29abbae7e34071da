-- Moments of a session, as far as a clock of 64 bits can reach them.
use Rattle.std.specs.Prelude.{ℕ, ◌+◌, ◌^◌, ◌&&◌, nat_lt, List, Option, Some, None, if◌then◌else◌}
use Rattle.relay_model.specs.declared.places.Way.TheVariants.{LeftToRight, RightToLeft}
use Rattle.relay_model.specs.{Config, Act, formed, now, done_at, session_work, session_moment}

-- a moment that a clock of 64 bits reaches
abbrev pub reachable : Option ℕ → Option ℕ
reachable None = None
reachable (Some m) = if nat_lt m (2 ^ 64) then Some m else None

-- the one of two moments that there is, if it is just one
abbrev pub one_of : Option ℕ → Option ℕ → Option ℕ
one_of (Some one) None = Some one
one_of None (Some other) = Some other
one_of (Some one) (Some other) = None
one_of None None = None

-- where two directions are formed and exactly one is done, the moment at which it was
abbrev pub one_done_at : Config → List Act → ℕ → Option ℕ
one_done_at c past s = if formed c LeftToRight && formed c RightToLeft then one_of (done_at c past s LeftToRight) (done_at c past s RightToLeft) else None

-- so much later
abbrev pub after : ℕ → Option ℕ → Option ℕ
after wait None = None
after wait (Some m) = Some (m + wait)

-- until when a session waits: now where armed work is left, else the least moment ahead
abbrev pub session_until : Config → List Act → ℕ → Option ℕ
session_until c past s = if session_work c past s then Some (now past) else session_moment c past s
