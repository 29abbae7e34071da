-- The laws of sleeping sessions, as statements.
use Rattle.std.specs.Prelude.{◌≡◌, ℕ, ◌<◌, Bool, true, false, ◌⊎◌, List, ◌∷◌, ◌++◌, Option, None}
use Rattle.relay_model.specs.{Config, Act, Listed, has_fork, numbers, holds, SameSession}
use Rattle.relay_model.specs.declared.acts.Act.TheVariants.{Turn}
use Rattle.relay_laws.specs.Sleeps.{Since, tick, SameIdle, RestsUntil, SleepsOn}

-- what comes while a session sleeps changes nothing of it but the clock and what was asked
abbrev pub SleptThrough : Type 0
SleptThrough = (c : Config) (s : ℕ) (until : Option ℕ) (slept past : List Act) → s < numbers c slept → Since c s until slept past → SameIdle c s past slept

-- a session that rests and waits until some moment goes on doing so
abbrev pub RestsThrough : Type 0
RestsThrough =
    (c : Config) (s : ℕ) (until : Option ℕ) (slept past : List Act) → s < numbers c slept → RestsUntil c slept s until → Since c s until slept past →
    SleepsOn c s until slept past

-- a turn says to a session that slept what it says to one that slept not at all since
abbrev pub WakesAlike : Type 0
WakesAlike =
    (c : Config) (s : ℕ) (until : Option ℕ) (slept past : List Act) (wait : Option ℕ) (at : ℕ) (ready : Listed) (stop : Bool) → s < numbers c slept →
    Since c s until slept past → SameSession c s (Turn wait at ready stop ∷ past) (Turn wait at ready stop ∷ slept)

-- whatever comes then says to a session that slept what it says after the one tick that set its clock, or after none
abbrev pub SleptIsTick : Type 0
SleptIsTick =
    (c : Config) (s : ℕ) (until : Option ℕ) (slept past newer : List Act) → s < numbers c slept → Since c s until slept past →
    SameSession c s (newer ++ past) (newer ++ slept) ⊎ ((at : ℕ) × SameSession c s (newer ++ past) (newer ++ tick at ∷ slept))

-- with `fork` a session that holds nothing any more rests in every history, and waits for nothing
abbrev pub GoneRests : Type 0
GoneRests = (c : Config) (past : List Act) (s : ℕ) → has_fork c ≡ true → holds c past s ≡ false → RestsUntil c past s None
