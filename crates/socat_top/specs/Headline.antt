-- What a run leaves: a legal history, nothing held, the outcome that the history gives, and its line.
use Rattle.std.specs.Prelude.{◌≡◌, ℕ, Bool, true, false, ◌⊎◌, List, Option, Some}
use Rattle.relay_model.specs.{Act, Place, Config, held, Legal}
use Rattle.relay_model.specs.Journals.{History, Asking}
use Rattle.exit_status.specs.{Outcome, IsOutcome}
use Rattle.exit_status.specs.declared.outcomes.Outcome.TheVariants as outcomes
use Rattle.session_loop.specs.{OnlyOwn, is_relayed}
use Rattle.session_driver.specs.{extend}
use Rattle.socat_top.specs.Ends.{StandardEnds}
use Rattle.port_trait.specs.{BehindSeen, PortSeen}
use Rattle.socat_top.specs.Behind.{EndsFar}
use Rattle.session_loop.specs.Headline as relayed
use Rattle.socat_top.specs.Notes.{Said, Tail}
use Rattle.socat_top.specs.declared.summaries.Summary.{Summary}
use Rattle.socat_top.specs.Runs.{GeneratedRun}
use Rattle.socat_top.specs.Summaries.{summary_line}
use Rattle.socat_top.specs.Tasks.{WordsTask, Relaying, Telling, Loading, Refusing, Unread}

-- the world told `before`, and tells `told` now: the acts of the relay between are legal, nothing is held after them,
-- the answer is theirs, each place that was asked for is the command's own, and after them comes the answer's line
pub record Headline (c : Config) (n : ℕ) (before : History) (told : Option History) (answer : Outcome) : Type 0 where
  pub acts : List Act
  pub asked : List Asking
  pub tail : Tail answer (Some (extend acts asked before)) told
  pub legal : Legal c n acts
  pub free : (p : Place) → held acts p ≡ false
  pub answer_is : IsOutcome c n acts answer ⊎ (answer ≡ outcomes.Memory)
  pub own : OnlyOwn c asked

-- a text was printed, and the answer is the one for that; or there was no memory for it
abbrev pub Printed : Outcome → List ℕ → Option History → Option History → Outcome → Type 0
Printed done text before told answer = ((answer ≡ done) × Said text before told) ⊎ ((answer ≡ outcomes.Memory) × Tail answer before told)

-- the summary of the generated run of a number was printed, or there was no memory for the run or for that
abbrev pub Loads : ℕ → Option History → Option History → Outcome → Type 0
Loads number before told answer =
    ((summary : Summary) × GeneratedRun number summary × Printed outcomes.Loaded (summary_line summary) before told answer)
    ⊎ ((answer ≡ outcomes.Memory) × Tail answer before told)

-- what a world that told `before` tells after the task
abbrev pub Leaves : WordsTask → ℕ → History → Option History → Outcome → Type 0
Leaves (Relaying c) n before told answer = Headline c n before told answer
Leaves (Telling text) n before told answer = Printed outcomes.Told text (Some before) told answer
Leaves (Loading number) n before told answer = Loads number (Some before) told answer
Leaves (Refusing refused) n before told answer = Tail answer (Some before) told
Leaves Unread n before told answer = Tail answer (Some before) told

-- what standard input gave and standard output took at the ends of each direction of a relay, by its acts
abbrev pub TaskEnds : WordsTask → List Act → Option (List ℕ) → Option (List ℕ) → Bool → Type 0
TaskEnds (Relaying c) acts gave took ended = StandardEnds c acts gave took ended
TaskEnds other acts gave took ended = Unit {0}

-- the same of the far ends of standard input and of standard output, by what is behind these
abbrev pub TaskEndsBehind : WordsTask → List Act → PortSeen → PortSeen → BehindSeen → BehindSeen → Type 0
TaskEndsBehind (Relaying c) acts stdin stdout source sink = EndsFar c acts stdin stdout source sink
TaskEndsBehind other acts stdin stdout source sink = Unit {0}

-- the answers that a task can get from any world; each may also be want of memory
abbrev pub Answers : WordsTask → Outcome → Type 0
Answers (Relaying c) answer = is_relayed answer ≡ true
Answers (Telling text) answer = (answer ≡ outcomes.Told) ⊎ (answer ≡ outcomes.Memory)
Answers (Loading number) answer = (answer ≡ outcomes.Loaded) ⊎ (answer ≡ outcomes.Memory)
Answers (Refusing refused) answer = (answer ≡ outcomes.Refused refused) ⊎ (answer ≡ outcomes.Memory)
Answers Unread answer = answer ≡ outcomes.Memory

-- where no fault and no stop was counted, and fewer than n waits, a relay has ended, or memory was wanting
abbrev pub CompletesTask : WordsTask → ℕ → ℕ → ℕ → ℕ → ℕ → ℕ → ℕ → Outcome → Type 0
CompletesTask (Relaying c) n faults faults' waits waits' stops stops' answer = relayed.Completes n faults faults' waits waits' stops stops' answer
CompletesTask other n faults faults' waits waits' stops stops' answer = Unit {0}
