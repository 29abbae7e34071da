-- What is known of what a thread hands back.
use Rattle.std.specs.Prelude.{ℕ}
use Rattle.ring_queue.specs.declared.ending.ThreadEnding.{ThreadEnding}
use Rattle.ring_queue.specs.declared.ending.ThreadEnding.TheVariants as endings

-- a fact of what the thread came to, unless it gave up
abbrev pub OnDone : {T : Type 0} → (T → Type 0) → ThreadEnding T → Type 0
OnDone fact (endings.Done done) = fact done
OnDone fact endings.GaveUp = Unit {0}
