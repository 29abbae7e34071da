use Rattle.std.proofs.Common.{◌≡◌, ℕ, ap, ◌∙◌, List}
use Rattle.std.specs.Prelude.{Option}
use Rattle.port_trait.specs.declared.spawning.Task.{Task}
use Rattle.port_trait.specs.declared.spawning.Task.TheVariants as tasks
use Rattle.port_trait.specs.Tasks.{TaskKeeps}
use Rattle.ring_queue.specs.declared.lines.Lines.{Lines}
use Rattle.ring_queue.specs.declared.words.Word.{Word}
use Rattle.ring_queue.specs.declared.ending.ThreadEnding.{ThreadEnding}
use Rattle.ring_reader.specs.declared.reader_thread.Fed.{Fed}
use Rattle.ring_queue.specs.Endings.{OnDone}
use Rattle.ring_reader.specs.declared.reader_start.FeedPromise.{FeedPromise}
use Rattle.ring_reader.specs.Starting.{FedBy, WillFeed}
use Rattle.ring_reader.proofs.reader_start.launch.Goals as goal

keeps_feed : {S : Type 0} (left : S → Option (List ℕ)) (faults ends : S → ℕ) (lines : Lines Word) (start : S) (promise : FeedPromise S) (task : Task (ThreadEnding (Fed S)) (FeedPromise S)) →
    promise.lines.value ≡ lines → promise.source.value ≡ start → TaskKeeps (λ (p : FeedPromise S) (ending : ThreadEnding (Fed S)). OnDone (FedBy left faults ends p.lines.value p.source.value) ending) promise task → WillFeed left faults ends lines start task
keeps_feed left faults ends lines start promise (tasks.Running handle) of_lines of_start keeps = (ap (λ (p : FeedPromise _). p.lines.value) keeps ∙ of_lines, ap (λ (p : FeedPromise _). p.source.value) keeps ∙ of_start)
keeps_feed left faults ends lines start promise (tasks.Ended ending) of_lines of_start keeps = rw (← of_lines, ← of_start) keeps

pub start-requires-clause-keeps : goal.start-requires-clause-keeps
start-requires-clause-keeps g c κs within given feeds = rw (c.of.ensures, c.deref.ensures, c.snapshot.ensures) feeds

pub returns-in-Ok-clause-started : goal.returns-in-Ok-clause-started
returns-in-Ok-clause-started g c =
    keeps_feed g.S.Source.left g.S.Source.faults g.S.Source.ends _ _ _ c.in-Ok.task (c.of.ensures ∙ c.deref.ensures) c.snapshot.ensures c.in-Ok.ensures.started
