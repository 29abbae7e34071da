-- A run of many sessions over one world, and what one of them makes of it.
use Rattle.std.specs.Prelude.{◌≡◌, ◌⊎◌, ℕ, ◌+◌, ◌-◌, ◌*◌, ◌^◌, ◌≤◌, Bool, true, false, not, List, [], ◌∷◌, None, option_map, min}
use Rattle.relay_model.specs.{Act, Place, Config, is_of, single, program_door, standing, Asking, now as moment, turns, owed, Legal, is_common}
use Rattle.relay_model.specs.declared.acts.Why.TheVariants as whys
use Rattle.relay_laws.specs.{OnlyHeldWereNamed}
use Rattle.relay_session.specs.{Session, Stands, wish_of, left_of, has_ended, is_blamed, stop_turned}
use Rattle.world_trait.specs.Seen.{Seen}
use Rattle.session_driver.specs.{extend, IsActOf, Counted}
use Rattle.session_loop.specs.Pauses.{Spreads}
use Rattle.session_loop.specs.declared.members.Member.{Member}

-- the place or door is one of the command's: some session's, or the program door
abbrev pub IsCommands : Config → Place → Type 0
IsCommands c p = ((s : ℕ) × (is_of c s p ≡ true)) ⊎ (p ≡ program_door)

-- each pair is one of these with its address
abbrev pub OnlyCommands : Config → List Asking → Type 0
OnlyCommands c [] = Unit {0}
OnlyCommands c (asking ∷ more) = IsCommands c asking.0 × (asking.1 ≡ single c asking.0) × OnlyCommands c more

-- a count rose, or stands at its last value
abbrev pub HasRisen : ℕ → ℕ → Type 0
HasRisen before now = min (before + 1) (2 ^ 64 - 1) ≤ now

-- the run began where the world looked like `start`; it looks like `now`, and the acts since then are `past`
pub record Run (c : Config) (n : ℕ) (start now : Seen) (past : List Act) : Type 0 where
  -- the acts
  pub legal : Legal c n past
  pub named : OnlyHeldWereNamed past
  -- what the world was asked, and what it holds and tells
  pub pairs : List Asking
  pub asked : OnlyCommands c pairs
  pub told : now.told ≡ option_map (extend past pairs) start.told
  pub holds : (p : Place) → now.held p ≡ standing past p
  -- the faults
  pub later : start.faults ≤ now.faults
  pub blamed : is_blamed past ≡ true → HasRisen start.faults now.faults
  -- the waits, the stops and the clock
  pub waited : min (start.waits + turns past) (2 ^ 64 - 1) ≤ now.waits
  pub few_waits : now.waits ≤ start.waits + turns past
  pub later_stops : start.stops ≤ now.stops
  pub stopped : stop_turned past ≡ true → HasRisen start.stops now.stops
  pub clock : moment past ≤ now.clock

-- no dump is owed, or the session is to close something for want of memory
abbrev pub Owes : Config → List Act → Session → Type 0
Owes c past x = (owed c past ≡ None) ⊎ Spreads (wish_of x) whys.Memory

-- one of its sessions stands for these acts, and what it read is counted
pub record RunOf (c : Config) (n : ℕ) (start now : Seen) (past : List Act) (s : ℕ) (m : Member) : Type 0 where
  pub run : Run c n start now past
  pub stands : Stands c n past s m.session
  pub counted : Counted c past s m.dumper
  pub owes : Owes c past m.session

-- some run led here
pub record Runs (c : Config) (now : Seen) (m : Member) : Type 0 where
  pub n : ℕ
  pub start : Seen
  pub past : List Act
  pub s : ℕ
  pub run : RunOf c n start now past s m

-- since then only this session acted, and none of its acts ends every session
pub data Ran (c : Config) (s : ℕ) (past : List Act) : List Act → Type 0 where
  stayed : Ran c s past past
  acted : (act : Act) (since : List Act) → IsActOf c s act → is_common c act ≡ false → Ran c s past since → Ran c s past (act ∷ since)

-- the run goes on to here, by acts of this session alone
pub record WentOn (c : Config) (n : ℕ) (start now : Seen) (past : List Act) (s : ℕ) (m : Member) : Type 0 where
  pub since : List Act
  pub ran : Ran c s past since
  pub run : RunOf c n start now since s m

-- so of every run that led to the beginning
abbrev pub RunsOn : Config → Seen → Seen → Member → Member → Type 0
RunsOn c old new before after = (n : ℕ) (start : Seen) (past : List Act) (s : ℕ) → RunOf c n start old past s before → WentOn c n start new past s after

-- one where it is so, else none
abbrev pub unit_of : Bool → ℕ
unit_of true = 1
unit_of false = 0

-- how many steps there are at most before the next turn
abbrev pub rank : Session → ℕ
rank x = 2 * left_of x + unit_of (not (has_ended x))
