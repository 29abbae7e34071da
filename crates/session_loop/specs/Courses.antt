-- What the loop keeps true, of some history that its session stands for.
use Rattle.std.specs.Prelude.{◌≡◌, ◌⊎◌, ℕ, ◌+◌, ◌-◌, ◌*◌, ◌^◌, ◌≤◌, Bool, true, false, not, List, [], ◌∷◌, Option, None, option_map, min}
use Rattle.relay_model.specs.{Act, Why, Place, Config, Asking, Free, standing, turns, first_fault, Legal, has_fork, is_of, single, program_door}
use Rattle.relay_model.specs.declared.acts.Act.TheVariants.{Turn}
use Rattle.relay_model.specs.Rest.{Rest, owed, until_of}
use Rattle.relay_session.specs.{Session, Stands, wish_of, left_of, has_ended, IsDone, is_blamed, stop_turned}
use Rattle.relay_session.specs.declared.wishes.Wish.TheVariants as wishes
use Rattle.world_trait.specs.Seen.{Seen}
use Rattle.session_driver.specs.{extend, IsDumpSettled}
use Rattle.session_loop.specs.Commands.{Runnable}
use Rattle.session_loop.specs.Answers.{told_fault}
use Rattle.session_loop.specs.declared.faults.Fault.{Fault}
use Rattle.session_loop.specs.declared.drivers.Driver.{Driver}
use Rattle.session_loop.specs.declared.drivers.DriverPause.{DriverPause}
use Rattle.session_loop.specs.declared.drivers.DriverPause.TheVariants.{Sleep, Done}

-- the place or door is one of the command's: of its one session, or with `fork` of some session, or the program door
abbrev pub IsOwn : Config → Place → Type 0
IsOwn c p = ((s : ℕ) × (is_of c s p ≡ true) × (has_fork c ≡ false → s ≡ 0)) ⊎ ((p ≡ program_door) × (has_fork c ≡ true))

-- each pair is one of these with its address
abbrev pub OnlyOwn : Config → List Asking → Type 0
OnlyOwn c [] = Unit {0}
OnlyOwn c (asking ∷ more) = IsOwn c asking.0 × (asking.1 ≡ single c asking.0) × OnlyOwn c more

-- a count rose, or stands at its last value
abbrev pub Risen : ℕ → ℕ → Type 0
Risen before now = min (before + 1) (2 ^ 64 - 1) ≤ now

-- the run began where the world looked like `start`; it looks like `now`, the session has come this far with so many turns
-- and this first fault, and the acts since then are `past`
pub record DriverRun (c : Config) (n : ℕ) (start now : Seen) (session : Session) (made : ℕ) (failed : Option Fault) (past : List Act) : Type 0 where
  -- the acts and the session
  pub runnable : Runnable c
  pub legal : Legal c n past
  pub stands : Stands c n past 0 session
  pub turned : turns past ≡ made
  -- what the world was asked, and what it holds and tells
  pub pairs : List Asking
  pub own : OnlyOwn c pairs
  pub told : now.told ≡ option_map (extend past pairs) start.told
  pub holds : (p : Place) → now.held p ≡ standing past p
  -- the faults
  pub later : start.faults ≤ now.faults
  pub fault : told_fault failed ≡ first_fault c past 0
  pub blamed : is_blamed past ≡ true → Risen start.faults now.faults
  -- the waits and the stops
  pub waited : min (start.waits + made) (2 ^ 64 - 1) ≤ now.waits
  pub few_waits : now.waits ≤ start.waits + made
  pub later_stops : start.stops ≤ now.stops
  pub stopped : stop_turned past ≡ true → Risen start.stops now.stops

-- such a run of the loop, between two steps
pub record DriverCourse (c : Config) (n : ℕ) (start now : Seen) (r : Driver) (past : List Act) : Type 0 where
  pub run : DriverRun c n start now r.session r.made r.fault past
  pub settled : IsDumpSettled c past 0 r.dumper

-- some run led here
pub record Somewhere (now : Seen) (r : Driver) : Type 0 where
  pub c : Config
  pub n : ℕ
  pub start : Seen
  pub past : List Act
  pub course : DriverCourse c n start now r past

-- some run of this command, with n turns in all
pub record SomewhereFor (c : Config) (n : ℕ) (now : Seen) (r : Driver) : Type 0 where
  pub start : Seen
  pub past : List Act
  pub course : DriverCourse c n start now r past

-- some run led here, after which the session is done for this reason
pub record SomeDone (why : Why) (r : Driver) : Type 0 where
  pub c : Config
  pub n : ℕ
  pub start : Seen
  pub now : Seen
  pub past : List Act
  pub course : DriverCourse c n start now r past
  pub done : IsDone c n past 0 why

-- some run led here
pub record Onward (c : Config) (n : ℕ) (start now : Seen) (r : Driver) : Type 0 where
  pub past : List Act
  pub course : DriverCourse c n start now r past

-- what every call of the loop keeps, for this command or for every one
abbrev pub KeepsFor : Config → Seen → Seen → Driver → Driver → Type 0
KeepsFor c now now' r r' = (n : ℕ) (start : Seen) (past : List Act) → DriverCourse c n start now r past → Onward c n start now' r'

-- a call goes from one such moment to the next, for every command
abbrev pub Keeps : Seen → Seen → Driver → Driver → Type 0
Keeps now now' r r' = (c : Config) → KeepsFor c now now' r r'

-- a wait needs a turn that is left
abbrev pub TurnsFor : Config → ℕ → Seen → Seen → Driver → Driver → Type 0
TurnsFor c n now now' r r' = (start : Seen) (past : List Act) → DriverCourse c n start now r past → Onward c n start now' r'

-- the last act is a turn
abbrev pub ends_in_turn : List Act → Bool
ends_in_turn [] = false
ends_in_turn (Turn until at ready stop ∷ past) = true
ends_in_turn (act ∷ past) = false

-- some run led here by a turn as its last act
pub record WaitedLast (c : Config) (n : ℕ) (start now : Seen) (r : Driver) : Type 0 where
  pub past : List Act
  pub course : DriverCourse c n start now r past
  pub last : ends_in_turn past ≡ true

-- so of every run that led to the beginning
abbrev pub WaitsOnce : Config → ℕ → Seen → Seen → Driver → Driver → Type 0
WaitsOnce c n now now' r r' = (start : Seen) (past : List Act) → DriverCourse c n start now r past → WaitedLast c n start now' r'

-- 1 where a test holds, else 0
abbrev pub unit_of : Bool → ℕ
unit_of true = 1
unit_of false = 0

-- how many steps there are at most before the next turn
abbrev pub rank : Driver → ℕ
rank r = 2 * left_of r.session + unit_of (not (has_ended r.session))

-- the session wishes to sleep, or is done for this reason
abbrev pub PauseIs : Driver → DriverPause → Type 0
PauseIs r (Sleep until) = (wish_of r.session ≡ wishes.Sleep until) × (has_ended r.session ≡ false)
PauseIs r (Done why) = wish_of r.session ≡ wishes.Done why

-- a sleep is in order, or the session is done and everything free
abbrev pub Pauses : Config → ℕ → List Act → DriverPause → Type 0
Pauses c n past (Sleep until) = Rest c past × (until ≡ until_of c past)
Pauses c n past (Done why) = IsDone c n past 0 why × ((p : Place) → standing past p ≡ Free)

-- so of every history that the session may stand for, after which no dump is owed
abbrev pub IsPause : Driver → DriverPause → Type 0
IsPause r pause = (c : Config) (n : ℕ) (past : List Act) → Runnable c → Stands c n past 0 r.session → Legal c n past → owed c past ≡ None → Pauses c n past pause
