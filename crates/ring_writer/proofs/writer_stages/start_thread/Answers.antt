use Rattle.std.proofs.Common.{◌≡◌, ℕ, ap, ◌∙◌, List, Bool}
use Rattle.std.specs.Prelude.{Option}
use Rattle.port_trait.specs.declared.spawning.Task.{Task}
use Rattle.port_trait.specs.declared.spawning.Task.TheVariants as tasks
use Rattle.port_trait.specs.Tasks.{TaskKeeps}
use Rattle.ring_queue.specs.declared.lines.Lines.{Lines}
use Rattle.ring_queue.specs.declared.words.SinkFault.{SinkFault}
use Rattle.ring_queue.specs.declared.ending.ThreadEnding.{ThreadEnding}
use Rattle.ring_writer.specs.declared.writer_thread.WriterDone.{WriterDone}
use Rattle.ring_queue.specs.Endings.{OnDone}
use Rattle.ring_writer.specs.declared.writer_thread.WriterPromise.{WriterPromise}
use Rattle.ring_writer.specs.WriterThread.{ThreadEnded}
use Rattle.ring_writer.specs.WriterRing.{TaskStands}
use Rattle.ring_writer.proofs.writer_stages.start_thread.Goals as goal

keeps_end : {K : Type 0} (took : K → Option (List ℕ)) (faults : K → ℕ) (finished : K → Bool) (lines : Lines SinkFault) (begun : K) (promise : WriterPromise K) (task : Task (ThreadEnding (WriterDone K)) (WriterPromise K)) →
    promise.lines.value ≡ lines → promise.begun.value ≡ begun → TaskKeeps (λ (p : WriterPromise K) (ending : ThreadEnding (WriterDone K)). OnDone (ThreadEnded took faults finished p.lines.value p.begun.value) ending) promise task → TaskStands took faults finished lines begun task
keeps_end took faults finished lines begun promise (tasks.Running handle) of_lines of_begun keeps = (ap (λ (p : WriterPromise _). p.lines.value) keeps ∙ of_lines, ap (λ (p : WriterPromise _). p.begun.value) keeps ∙ of_begun)
keeps_end took faults finished lines begun promise (tasks.Ended ending) of_lines of_begun keeps = rw (← of_lines, ← of_begun) keeps

pub start-requires-clause-keeps : goal.start-requires-clause-keeps
start-requires-clause-keeps g c κs within given ended = rw (c.of.ensures, c.deref.ensures, c.of-2.ensures) ended

pub returns-in-Ok-clause-started : goal.returns-in-Ok-clause-started
returns-in-Ok-clause-started g c =
    keeps_end g.K.Sink.took g.K.Sink.faults g.K.Sink.finished _ _ _ c.in-Ok.task (c.of.ensures ∙ c.deref.ensures) c.of-2.ensures c.in-Ok.ensures.started
