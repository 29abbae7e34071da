-- What the acts of a run make of a world, and what its answer says of them.
use Rattle.std.specs.Prelude.{◌≡◌, ◌⊎◌, ℕ, ◌+◌, ◌-◌, ◌^◌, ◌≤◌, true, false, List, option_map, min}
use Rattle.relay_model.specs.{Act, Place, Config, Asking, standing, held, turns, Legal}
use Rattle.relay_session.specs.{is_blamed, stop_turned}
use Rattle.exit_status.specs.{Outcome, IsOutcome}
use Rattle.exit_status.specs.declared.outcomes.Outcome.TheVariants as outcomes
use Rattle.world_trait.specs.Seen.{Seen}
use Rattle.session_driver.specs.{extend}
use Rattle.session_loop.specs.Courses.{OnlyOwn, Risen}
use Rattle.session_loop.specs.Headline.{is_failure, is_relayed}

-- a run began where the world looked like `start`; it looks like `now`, and the acts since then are `past`
pub record Happened (c : Config) (n : ℕ) (start now : Seen) (past : List Act) : Type 0 where
  pub legal : Legal c n past
  -- what the world was asked, and what it holds and tells
  pub pairs : List Asking
  pub own : OnlyOwn c pairs
  pub told : now.told ≡ option_map (extend past pairs) start.told
  pub holds : (p : Place) → now.held p ≡ standing past p
  -- the faults
  pub later : start.faults ≤ now.faults
  pub blamed : is_blamed past ≡ true → Risen start.faults now.faults
  -- the waits and the stops
  pub waited : min (start.waits + turns past) (2 ^ 64 - 1) ≤ now.waits
  pub few_waits : now.waits ≤ start.waits + turns past
  pub later_stops : start.stops ≤ now.stops
  pub stopped : stop_turned past ≡ true → Risen start.stops now.stops

-- stopped by a turn, or with the turns used up
abbrev pub StopAt : ℕ → List Act → Type 0
StopAt n past = (stop_turned past ≡ true) ⊎ (turns past ≡ n)

-- nothing is held after the acts, and the answer is their outcome or tells of want of memory; a failure has an act that is
-- to blame for it, and a stop was told by a turn or the turns are used up
pub record EndsWith (c : Config) (n : ℕ) (past : List Act) (answer : Outcome) : Type 0 where
  pub free : (p : Place) → held past p ≡ false
  pub outcome_is : IsOutcome c n past answer ⊎ (answer ≡ outcomes.Memory)
  pub relayed : is_relayed answer ≡ true
  pub failed : is_failure answer ≡ true → is_blamed past ≡ true
  pub stopped : (t : ℕ) → answer ≡ outcomes.Stopped t → (t ≡ turns past) × StopAt n past

-- the run has ended with this answer
pub record HasRunEnded (c : Config) (n : ℕ) (start now : Seen) (past : List Act) (answer : Outcome) : Type 0 where
  pub happened : Happened c n start now past
  pub ends : EndsWith c n past answer
