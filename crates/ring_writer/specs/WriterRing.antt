-- How a writer stands: what its port put, what its thread came to, and what the calls of the port do to that.
use Rattle.std.specs.Prelude.{◌≡◌, ℕ, zero, suc, ◌+◌, ◌-◌, ◌^◌, ◌≤◌, min, Bool, true, false, not, ◌&&◌, List, [], ◌++◌, length, take, drop, Option, None, Some, option_map, IfSome, if◌then◌else◌}
use Rattle.crossbeam_queue.specs.Passes.{view}
use Rattle.port_trait.specs.{Adds, IsFront, rise, Begun as BeginAnswer, Took as WriteAnswer, Task}
use Rattle.port_trait.specs.declared.answers.Begun.TheVariants as begins
use Rattle.port_trait.specs.declared.answers.Took.TheVariants as writes
use Rattle.port_trait.specs.declared.spawning.Task.TheVariants.{Running, Ended}
use Rattle.ring_queue.specs.{RingItem, SinkFault, Lines, ThreadEnding, OnDone, bytes_of, is_end_mark, last_is}
use Rattle.ring_writer.specs.declared.writer_outlet.Outlet.{Outlet}
use Rattle.ring_writer.specs.declared.writer_thread.WriterDone.{WriterDone}
use Rattle.ring_writer.specs.declared.writer_thread.WriterPromise.{WriterPromise}
use Rattle.ring_writer.specs.declared.writer_stages.WriterBack.{WriterBack}
use Rattle.ring_writer.specs.declared.writer_stages.WriterStage.{WriterStage}
use Rattle.ring_writer.specs.declared.writer_stages.WriterStage.TheVariants as stages
use Rattle.ring_writer.specs.Writer.{KeptUp}
use Rattle.ring_writer.specs.WriterPuts.{IsPutting, PutsChunk, WasFull}
use Rattle.ring_writer.specs.WriterThread.{IsTrueToSink, IsFinished, ThreadEnded}

-- what a content gained, where both are told
abbrev pub gained : Option (List ℕ) → Option (List ℕ) → Option (List ℕ)
gained None now = None
gained (Some before) None = None
gained (Some before) (Some now) = Some (drop (length before) now)

-- all of it where the sink never failed, else so many bytes
abbrev pub unless_failed : ℕ → ℕ → Option (List ℕ) → Option (List ℕ)
unless_failed zero sound all = all
unless_failed (suc faults) sound all = option_map (take sound) all

-- what the sink took since then before its first fault
abbrev pub took_soundly : {K : Type 0} → (K → Option (List ℕ)) → K → Outlet K → Option (List ℕ)
took_soundly took begun outlet = unless_failed outlet.faults outlet.sound (gained (took begun) (took outlet.sink))

-- what a joined writer knows: the items that its thread took, what its sink took before its first fault, what the sink
-- has taken in all, how far its count of faults rose, and whether the last call on it finished it
pub record WriterBehind : Type 0 where
  pub taken : List RingItem
  pub took : Option (List ℕ)
  pub total : Option (List ℕ)
  pub faults : ℕ
  pub finished : Bool

-- what the sink had taken when the writer was made, unless its thread was refused; what was put, how many fault marks
-- were taken, whether the writer has begun, whether its thread was refused, and what is known since the thread's end
pub record WriterLine : Type 0 where
  pub had : Option (List ℕ)
  pub sent : List RingItem
  pub marks : ℕ
  pub begun : Bool
  pub refused : Bool
  pub behind : Option WriterBehind

-- what a joined writer tells of its sink
abbrev pub behind_of : {K : Type 0} → (K → Option (List ℕ)) → (K → ℕ) → (K → Bool) → WriterBack K → WriterBehind
behind_of took faults finished back = record {
  taken = (view back.items).taken;
  took = took_soundly took back.begun.value back.outlet;
  total = took back.outlet.sink;
  faults = rise (faults back.begun.value) (faults back.outlet.sink) back.outlet.faults;
  finished = finished back.outlet.sink;
}

-- the line of a writer that was just made, of a sink that had taken so much
abbrev pub fresh_line : Option (List ℕ) → Bool → WriterLine
fresh_line had refused = record { had = if refused then None else had; sent = []; marks = 0; begun = false; refused = refused; behind = None }

-- what contracts see of a writer at this stage
abbrev pub line_of : {K : Type 0} → (K → Option (List ℕ)) → (K → ℕ) → (K → Bool) → WriterStage K → WriterLine
line_of took faults finished (stages.Ready putter begun task) = fresh_line (took begun.value) false
line_of took faults finished stages.Refused = fresh_line None true
line_of took faults finished (stages.Working putter begun task) = record { had = took begun.value; sent = (view putter.sender).sent; marks = length (view putter.taker).taken; begun = true; refused = false; behind = None }
line_of took faults finished (stages.Back back) = record { had = took back.begun.value; sent = (view back.items).sent; marks = length (view back.marks).taken; begun = true; refused = false; behind = Some (behind_of took faults finished back) }

-- whether the end mark was put
abbrev pub is_shut : WriterLine → Bool
is_shut line = last_is is_end_mark line.sent

-- whether bytes may be put
abbrev pub is_open : WriterLine → Bool
is_open line = line.begun && not (is_shut line)

-- whether the thread comes to its end, or never began
abbrev pub may_join : WriterLine → Bool
may_join line = if line.begun then is_shut line else true

-- the thread was started on these queues with this sink, and comes to its end unless it gives up
abbrev pub TaskStands : {K : Type 0} → (K → Option (List ℕ)) → (K → ℕ) → (K → Bool) → Lines SinkFault → K → Task (ThreadEnding (WriterDone K)) (WriterPromise K) → Type 0
TaskStands took faults finished lines begun (Running handle) = (handle.promise.lines.value ≡ lines) × (handle.promise.begun.value ≡ begun)
TaskStands took faults finished lines begun (Ended ending) = OnDone (ThreadEnded took faults finished lines begun) ending

-- all that was put was taken, the end mark last, and what became of it is known
pub record IsBack {K : Type 0} (took : K → Option (List ℕ)) (faults : K → ℕ) (finished : K → Bool) (back : WriterBack K) : Type 0 where
  pub all : (view back.items).sent ≡ (view back.items).taken
  pub ended : last_is is_end_mark (view back.items).sent ≡ true
  pub true_to_sink : IsTrueToSink took faults (took back.begun.value) (faults back.begun.value) back.outlet (view back.items).taken (view back.marks).taken
  pub over : IsFinished finished back.outlet

-- a writer at this stage is as it should be
abbrev pub WriterStands : {K : Type 0} → (K → Option (List ℕ)) → (K → ℕ) → (K → Bool) → WriterStage K → Type 0
WriterStands took faults finished (stages.Ready putter begun task) = IsPutting putter × (view putter.sender).sent ≡ [] × (view putter.taker).taken ≡ [] × TaskStands took faults finished putter.lines.value begun.value task
WriterStands took faults finished stages.Refused = Unit {0}
WriterStands took faults finished (stages.Working putter begun task) = IsPutting putter × TaskStands took faults finished putter.lines.value begun.value task
WriterStands took faults finished (stages.Back back) = IsBack took faults finished back

-- a begin by its answer: it fails exactly where no thread could be started
abbrev pub LineBegins : WriterLine → WriterLine → BeginAnswer → Type 0
LineBegins before now begins.Begun = (before.refused ≡ false) × (now ≡ record before { begun = true })
LineBegins before now begins.Failed = (before.refused ≡ true) × (now ≡ before)
LineBegins before now begins.Memory = ⊥

-- what a sink took since it had so much: a front before its first fault, and more only after that
abbrev pub GrewBy : Option (List ℕ) → Option (List ℕ) → ℕ → List ℕ → Type 0
GrewBy had total faults front = (later : List ℕ) × (faults ≡ 0 → later ≡ []) × Adds had total (front ++ later)

-- what the thread took is what was put, the sink took a front of its bytes before its first fault, and all of them
-- where it never failed; it took that after what it had when the writer was made, and failed as often as the port was
-- told. It took what was put after a fault too: each fault cost at most 65,536 bytes. A sink that never failed was
-- finished, and nothing was written to it after that
pub record IsBehind (line : WriterLine) (behind : WriterBehind) : Type 0 where
  pub all : behind.taken ≡ line.sent
  pub ended : is_shut line ≡ true
  pub front : IfSome behind.took (λ took. IsFront took (bytes_of line.sent))
  pub whole : behind.faults ≡ 0 → IfSome behind.took (λ took. took ≡ bytes_of line.sent)
  pub grew : IfSome behind.took (GrewBy line.had behind.total behind.faults)
  pub told : min line.marks (2 ^ 64 - 1) ≤ behind.faults
  pub kept_up : KeptUp behind.faults 0 line.had behind.total (bytes_of line.sent)
  pub finished : behind.faults ≡ 0 → behind.finished ≡ true

-- a write of an open writer puts one chunk of the front of the bytes; or the queue was full, and nothing is put; or a
-- fault mark was taken
abbrev pub WritesChunk : WriterLine → WriterLine → List ℕ → WriteAnswer → Type 0
WritesChunk before now bytes (writes.Took n) = PutsChunk before.sent now.sent bytes (writes.Took n) × (now ≡ record before { sent = now.sent })
WritesChunk before now bytes writes.NotYet = WasFull before.sent × (now ≡ before)
WritesChunk before now bytes writes.Failed = now ≡ record before { marks = before.marks + 1 }
