-- What a reader's port knows of the thread that it started.
use Rattle.std.specs.Prelude.{◌≡◌, ℕ, List, Option}
use Rattle.port_trait.specs.{Task}
use Rattle.port_trait.specs.declared.spawning.Task.TheVariants as tasks
use Rattle.crossbeam_queue.specs.Passes.{view, IsPassOf}
use Rattle.ring_queue.specs.{Lines, Word, ThreadEnding, OnDone}
use Rattle.ring_reader.specs.declared.reader_thread.Fed.{Fed}
use Rattle.ring_reader.specs.declared.reader_start.FeedPromise.{FeedPromise}
use Rattle.ring_reader.specs.Feeding.{HasFed}

-- what the thread of these lines hands back, of the source that it started with
abbrev pub FedBy : {S : Type 0} → (S → Option (List ℕ)) → (S → ℕ) → (S → ℕ) → Lines Word → S → Fed S → Type 0
FedBy left faults ends lines start fed = IsPassOf lines.items fed.items × IsPassOf lines.back fed.words
    × HasFed (left start) (left fed.source) (faults start) (faults fed.source) (ends start) (ends fed.source) (view fed.items) (view fed.words)

-- the task hands back just that, unless its thread gives up
abbrev pub WillFeed : {S : Type 0} → (S → Option (List ℕ)) → (S → ℕ) → (S → ℕ) → Lines Word → S → Task (ThreadEnding (Fed S)) (FeedPromise S) → Type 0
WillFeed left faults ends lines start (tasks.Running handle) = (handle.promise.lines.value ≡ lines) × (handle.promise.source.value ≡ start)
WillFeed left faults ends lines start (tasks.Ended ending) = OnDone (FedBy left faults ends lines start) ending
