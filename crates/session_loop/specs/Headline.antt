-- What a run leaves: a legal history, nothing held, and the outcome that the history gives.
use Rattle.std.specs.Prelude.{◌≡◌, ℕ, ◌+◌, ◌-◌, ◌^◌, ◌≤◌, ◌<◌, Bool, true, false, List, Option, Some, min, ◌⊎◌}
use Rattle.relay_model.specs.{Act, Place, Config, held, Legal}
use Rattle.relay_model.specs.Journals.{History, Asking}
use Rattle.exit_status.specs.{Outcome, IsOutcome}
use Rattle.exit_status.specs.declared.outcomes.Outcome.TheVariants as outcomes
use Rattle.session_loop.specs.Courses.{OnlyOwn, Risen}
use Rattle.session_driver.specs.{extend}

-- the world told `before`, and tells `told` now: the acts between are legal, nothing is held after them, the
-- answer is their outcome or want of memory, and each place that was asked for is the command's own
pub record RelayHeadline (c : Config) (n : ℕ) (before : History) (told : Option History) (answer : Outcome) : Type 0 where
  pub acts : List Act
  pub asked : List Asking
  pub told_is : told ≡ Some (extend acts asked before)
  pub legal : Legal c n acts
  pub free : (p : Place) → held acts p ≡ false
  pub outcome_is : IsOutcome c n acts answer ⊎ (answer ≡ outcomes.Memory)
  pub own : OnlyOwn c asked

-- the answers that say that something failed
abbrev pub is_failure : Outcome → Bool
is_failure (outcomes.OpenFailed side attempts) = true
is_failure (outcomes.ListenFailed attempts) = true
is_failure outcomes.AcceptFailed = true
is_failure (outcomes.Faulted place op) = true
is_failure outcome = false

-- the answers that a relay gives
abbrev pub is_relayed : Outcome → Bool
is_relayed (outcomes.Ended why) = true
is_relayed (outcomes.OpenFailed side attempts) = true
is_relayed (outcomes.ListenFailed attempts) = true
is_relayed outcomes.AcceptFailed = true
is_relayed (outcomes.Faulted place op) = true
is_relayed (outcomes.Stopped turns) = true
is_relayed outcomes.Memory = true
is_relayed outcome = false

-- a count rose by so many, or stands at its last value
pub record RoseBy (count before now : ℕ) : Type 0 where
  pub least : min (before + count) (2 ^ 64 - 1) ≤ now
  pub most : now ≤ before + count

-- a stop tells by how much the waits rose, and comes where the world said stop or where all n turns were made
abbrev pub StopCause : ℕ → ℕ → ℕ → ℕ → ℕ → Outcome → Type 0
StopCause n waits waits' stops stops' (outcomes.Stopped turns) = RoseBy turns waits waits' × (Risen stops stops' ⊎ (turns ≡ n))
StopCause n waits waits' stops stops' outcome = Unit {0}

-- ---- completeness

-- a count didn't rise, and doesn't stand at its last value, where a rise wouldn't show
abbrev pub Unrisen : ℕ → ℕ → Type 0
Unrisen before now = now < min (before + 1) (2 ^ 64 - 1)

-- the answers that are left where nothing failed and nothing stopped the run: it ended by itself, or memory was wanting
abbrev pub is_undisturbed : Outcome → Bool
is_undisturbed (outcomes.Ended why) = true
is_undisturbed outcomes.Memory = true
is_undisturbed outcome = false

-- where no fault and no stop was counted, and fewer than n waits, the answer is one of these
abbrev pub Completes : ℕ → ℕ → ℕ → ℕ → ℕ → ℕ → ℕ → Outcome → Type 0
Completes n faults faults' waits waits' stops stops' answer =
    Unrisen faults faults' → waits' < min (waits + n) (2 ^ 64 - 1) → Unrisen stops stops' → is_undisturbed answer ≡ true
