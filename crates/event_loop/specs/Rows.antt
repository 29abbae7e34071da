-- What the row of a session says of it: whether it has heard the last turn, is in the list of work, or sleeps.
use Rattle.std.specs.Prelude.{◌≡◌, ◌⊎◌, ℕ, ◌<◌, ◌≤◌, true, false, List, [], ◌∷◌, Option, Some, None}
use Rattle.relay_model.specs.{Act, Config, now as moment, turns, admitted, holds, live, numbers}
use Rattle.relay_session.specs.{Session}
use Rattle.session_driver.specs.{Counted}
use Rattle.session_laws.specs.{Sleeper, Waker, Woke}
use Rattle.event_loop.specs.declared.all_sessions.Row.{Row}

-- the number is in the list
abbrev pub Has : ℕ → List ℕ → Type 0
Has s [] = ⊥
Has s (k ∷ ks) = (s ≡ k) ⊎ Has s ks

-- a session that one turn which names nothing of it brings to now
abbrev pub Tardy : Config → ℕ → List Act → ℕ → Session → Type 0
Tardy c n past s x = (new : Session) → Woke c n s (moment past) x new → Waker c n past s new

-- the session of a row lives, and what it read is counted; it is awake where it has heard the last turn, and else is to
-- hear one
pub record Wakes (c : Config) (n : ℕ) (past : List Act) (s : ℕ) (row : Row) : Type 0 where
  pub begun : s < numbers c past
  pub lives : live c past s ≡ true
  pub current : turns past ≤ row.turn → Waker c n past s row.member.session
  pub late : row.turn < turns past → Tardy c n past s row.member.session
  pub counted : Counted c past s row.member.dumper

-- the same of a row that may be gone: then a session that has begun holds nothing any more, and no timer is set for it
abbrev pub UpRow : Config → ℕ → List Act → ℕ → Option ℕ → Option Row → Type 0
UpRow c n past s timer None = (s < admitted c past → holds c past s ≡ false) × (timer ≡ None)
UpRow c n past s timer (Some row) = Wakes c n past s row

-- a session that lives is in the list of work, or sleeps until the moment of its timer
abbrev pub RowIs : Config → ℕ → List Act → ℕ → List ℕ → Option ℕ → Option Row → Type 0
RowIs c n past s work timer None = (s < admitted c past → holds c past s ≡ false) × (timer ≡ None)
RowIs c n past s work timer (Some row) = (Has s work × Wakes c n past s row) ⊎ (Sleeper c n past s timer row.turn row.member.session × Counted c past s row.member.dumper)

-- the row's session hears that a turn came, where it hasn't yet
pub record Wakened (made at : ℕ) (old new : Row) : Type 0 where
  pub turn_is : new.turn ≡ made
  pub dumper_same : new.member.dumper ≡ old.member.dumper
  pub kept : made ≤ old.turn → new.member.session ≡ old.member.session
  pub woken : old.turn < made → (c : Config) (n : ℕ) (s : ℕ) → Woke c n s at old.member.session new.member.session
