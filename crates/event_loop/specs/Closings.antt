-- How all that is held is closed, once each session was cut.
use Rattle.std.specs.Prelude.{vec_len, ◌≡◌, ◌≢◌, ◌⊎◌, ℕ, ◌+◌, ◌<◌, ◌≤◌, Bool, true, false, List, ◌∷◌, ◌++◌, length, Option, Some, None, is_some}
use Rattle.relay_model.specs.{Place, Config, Act, Why, turns, admitted, holds, closed_why, count, is_common}
use Rattle.relay_model.specs.declared.acts.Act.TheVariants.{Closed}
use Rattle.relay_session.specs.{Session, Wish, Stands, wish_of, ending_of}
use Rattle.relay_session.specs.declared.wishes.Wish.TheVariants as wishes
use Rattle.program_door.specs.{Door}
use Rattle.fork_table.specs.{row_of}
use Rattle.world_trait.specs.Seen.{Seen}
use Rattle.session_driver.specs.{IsActOf}
use Rattle.session_laws.specs.{IsSaid}
use Rattle.event_loop.specs.declared.all_sessions.Sessions.{Sessions}
use Rattle.event_loop.specs.declared.all_sessions.Row.{Row}
use Rattle.event_loop.specs.Courses.{CountsSessions, OthersStay}
use Rattle.event_loop.specs.Endings.{LeavesRow}
use Rattle.event_loop.specs.Turned.{NoneLives}
use Rattle.event_loop.specs.Waited.{Exit, LeavingAt}

-- the wish is a closing
abbrev pub closes : Wish → Bool
closes (wishes.Close q why) = true
closes wish = false

-- the run is ended for this reason and the session was cut for it; nothing of it was closed yet, or a closing has said so
pub record IsLeaving (c : Config) (n : ℕ) (start now : Seen) (past : List Act) (s : ℕ) (why : Why) (x : Session) (door : Door) : Type 0 where
  pub exit : Exit c n start now past why door
  pub stands : Stands c n past s x
  pub ending : ending_of x ≡ Some why
  pub said : (closed_why c past s ≡ None) ⊎ IsSaid why past

-- some run led here
pub record SomeLeaves (c : Config) (now : Seen) (why : Why) (x : Session) (door : Door) : Type 0 where
  pub n : ℕ
  pub start : Seen
  pub past : List Act
  pub s : ℕ
  pub leaves : IsLeaving c n start now past s why x door

-- since then only this session acted: it closed things for this reason and, once that was said, did what ends no session
pub data LeftBy (c : Config) (s : ℕ) (why : Why) (past : List Act) : List Act → Type 0 where
  stayed : LeftBy c s why past past
  closed : (q : Place) (since : List Act) → IsActOf c s (Closed q why) → LeftBy c s why past since → LeftBy c s why past (Closed q why ∷ since)
  acted : (act : Act) (since : List Act) → IsActOf c s act → is_common c act ≡ false → IsSaid why since → LeftBy c s why past since → LeftBy c s why past (act ∷ since)

-- where that has led
pub record LeftTo (c : Config) (n : ℕ) (start now : Seen) (past : List Act) (s : ℕ) (why : Why) (x : Session) (door : Door) : Type 0 where
  pub since : List Act
  pub left : LeftBy c s why past since
  pub leaves : IsLeaving c n start now since s why x door

-- so of every run that led to the beginning
abbrev pub LeavesOn : Config → Seen → Seen → Why → Session → Session → Door → Door → Type 0
LeavesOn c old new why before after from to =
    (n : ℕ) (start : Seen) (past : List Act) (s : ℕ) → IsLeaving c n start old past s why before from → LeftTo c n start new past s why after to

-- the session holds nothing any more and has asked for its children
abbrev pub IsOver : Session → Type 0
IsOver x = (why : Why) × (wish_of x ≡ wishes.Done why)

-- ---- all sessions

-- some run whose sessions were cut led here
pub record SomeLeaving (c : Config) (now : Seen) (why : Why) (sessions : Sessions) : Type 0 where
  pub n : ℕ
  pub start : Seen
  pub past : List Act
  pub leaving : LeavingAt c n start now past why sessions

-- the session of this number has closed all, if it lived, by at least one act, and its row still stands
pub record Emptied (c : Config) (n : ℕ) (start now : Seen) (before : List Act) (t : ℕ) (why : Why) (was : Option Row) (sessions : Sessions) : Type 0 where
  pub made : List Act
  pub acted : is_some was ≡ true → 1 ≤ length made
  pub exit : Exit c n start now (made ++ before) why sessions.door
  pub counts : CountsSessions c (made ++ before) sessions.table
  pub made_is : turns (made ++ before) ≡ sessions.made
  pub room : c.block ≤ vec_len sessions.scratch
  pub rows : (s : ℕ) → s ≢ t → LeavesRow c n (made ++ before) s why (row_of sessions.table s)
  pub empty : t < admitted c (made ++ before) → holds c (made ++ before) t ≡ false

-- so of each run, and no other row changed
pub record EmptiesRow (c : Config) (old new : Seen) (t : ℕ) (why : Why) (before after : Sessions) : Type 0 where
  pub emptied : (n : ℕ) (start : Seen) (past : List Act) → LeavingAt c n start old past why before → Emptied c n start new past t why (row_of before.table t) after
  pub others : OthersStay t before after

-- its row is gone too
pub record LeftAfter (c : Config) (n : ℕ) (start now : Seen) (before : List Act) (why : Why) (was : Option Row) (sessions : Sessions) : Type 0 where
  pub made : List Act
  pub acted : is_some was ≡ true → 1 ≤ length made
  pub leaving : LeavingAt c n start now (made ++ before) why sessions

-- so of each run
pub record RowLeaves (c : Config) (old new : Seen) (t : ℕ) (why : Why) (before after : Sessions) : Type 0 where
  pub keeps : (n : ℕ) (start : Seen) (past : List Act) → LeavingAt c n start old past why before → LeftAfter c n start new past why (row_of before.table t) after
  pub gone : row_of after.table t ≡ None
  pub others : OthersStay t before after

-- how many of the numbers below this one have a session
abbrev pub rows_below : Sessions → ℕ → ℕ
rows_below sessions k = count (λ s. is_some (row_of sessions.table s)) k

-- there was no more than one look at each session
abbrev pub LooksAtRows : Sessions → ℕ → ℕ → Type 0
LooksAtRows sessions old new = (k : ℕ) × (new ≤ old + rows_below sessions k)

-- each session has closed all, by an act of its own at least, and no look came without one
pub record AllLeft (c : Config) (n : ℕ) (start now : Seen) (before : List Act) (why : Why) (first sessions : Sessions) (old new : ℕ) : Type 0 where
  pub made : List Act
  pub leaving : LeavingAt c n start now (made ++ before) why sessions
  pub each : (k : ℕ) → rows_below first k ≤ length made
  pub few : new ≤ old + length made

-- so of each run, and no row is left
pub record RowsLeave (c : Config) (old new : Seen) (why : Why) (before after : Sessions) (ticks more : ℕ) : Type 0 where
  pub keeps : (n : ℕ) (start : Seen) (past : List Act) → LeavingAt c n start old past why before → AllLeft c n start new past why before after ticks more
  pub none : NoneLives after
