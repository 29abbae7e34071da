-- What contracts see of a writer, and what the calls of its port do.
use Rattle.std.specs.Prelude.{◌≡◌, ℕ, ◌+◌, ◌≤◌, Bool, true, false, not, ◌&&◌, List, [], ◌∷◌, ◌++◌, length, take, Option, None, Some, if◌then◌else◌}
use Rattle.relay_model.specs.{Shut}
use Rattle.port_trait.specs.Serving.{Serving}
use Rattle.port_trait.specs.{BehindSeen, PortSeen, nothing_behind, untold, Begun as BeginAnswer, Took as WriteAnswer}
use Rattle.port_trait.specs.declared.answers.Begun.TheVariants as begins
use Rattle.port_trait.specs.declared.answers.Took.TheVariants as writes
use Rattle.ring_queue.specs.declared.items.RingItem.TheVariants as items
use Rattle.ring_queue.specs.{RingTally, bytes_of, told, AddsChunks, no_tally, with_misuse}
use Rattle.ring_writer.specs.WriterRing.{WriterLine, WriterBehind, WritesChunk, fresh_line, is_open, is_shut, may_join}

-- how its line stands, what was counted, and each shut
pub record WriterState : Type 0 where
  pub line : WriterLine
  pub tally : RingTally
  pub shuts : List Shut

-- a writer that was just made over a sink that had taken so much, whose thread waits or couldn't be started
abbrev pub fresh_writer : Option (List ℕ) → Bool → WriterState
fresh_writer had refused = record {
  line = fresh_line had refused;
  tally = no_tally;
  shuts = [];
}

-- the bytes that the writer took
abbrev pub took_of : WriterState → List ℕ
took_of writer = bytes_of writer.line.sent

-- what is seen of the sink behind a writer, which has no ends to count
abbrev pub sink_seen : Option WriterBehind → BehindSeen
sink_seen None = nothing_behind
sink_seen (Some behind) = record { gave = None; took = behind.took; faults = Some behind.faults; ends = Some 0; left = None; finished = Some behind.finished }

-- it serves writes until its end mark was put
abbrev pub served_of : WriterState → Serving
served_of writer = record { reads = false; writes = not (is_shut writer.line); misuses = writer.tally.misuses }

-- what is seen of a writer
abbrev pub writer_seen : WriterState → PortSeen
writer_seen writer = record untold {
  took = Some (took_of writer);
  shuts = Some writer.shuts;
  behind = sink_seen writer.line.behind;
  served = Some (served_of writer);
  counts = writer.tally.counts;
  begun = writer.line.begun;
  joins = may_join writer.line;
}

-- a call that the writer doesn't serve is counted, and changes nothing else
abbrev pub misused_writer : WriterState → WriterState
misused_writer writer = record writer { tally = with_misuse writer.tally }

-- a begin by its answer: it fails exactly where no thread could be started, which is a misuse. Before the first begin
-- all faults are misuses
abbrev pub WriterBeginStep : WriterState → WriterState → BeginAnswer → Type 0
WriterBeginStep before now begins.Begun = (before.line.refused ≡ false) × (before.line.begun ≡ false → before.tally.misuses ≡ before.tally.counts.faults) × (now ≡ record before { line = record before.line { begun = true } })
WriterBeginStep before now begins.Failed = (before.line.refused ≡ true) × (now ≡ misused_writer before)
WriterBeginStep before now begins.Memory = ⊥

-- a write puts one chunk, where the writer is open
abbrev pub WriterWrites : Bool → WriterState → WriterState → List ℕ → WriteAnswer → Type 0
WriterWrites true before now bytes answer = WritesChunk before.line now.line bytes answer × (now.tally.misuses ≡ before.tally.misuses)
WriterWrites false before now bytes answer = (now ≡ misused_writer before) × (answer ≡ writes.Failed)

-- chunks with these bytes were put, and so many fault marks were taken
abbrev pub PutsMore : WriterLine → WriterLine → List ℕ → ℕ → Type 0
PutsMore before now bytes heard = AddsChunks before.sent now.sent bytes × (now ≡ record before { sent = now.sent; marks = before.marks + heard })

-- all bytes are put in chunks, or a front of them before a fault mark was taken
abbrev pub PutsAll : WriterLine → WriterLine → List ℕ → WriteAnswer → Type 0
PutsAll before now bytes (writes.Took n) = (n ≡ length bytes) × PutsMore before now bytes 0
PutsAll before now bytes writes.NotYet = ⊥
PutsAll before now bytes writes.Failed = (n : ℕ) × (n ≤ length bytes) × PutsMore before now (take n bytes) 1

-- bytes are put whole, where the writer serves the call
abbrev pub WriterPutsAll : Bool → WriterState → WriterState → List ℕ → WriteAnswer → Type 0
WriterPutsAll true before now bytes answer = PutsAll before.line now.line bytes answer × (now.tally.misuses ≡ before.tally.misuses)
WriterPutsAll false before now bytes answer = (now ≡ misused_writer before) × (answer ≡ writes.Failed)

-- the end mark tells how many bytes were put before it
abbrev pub with_end_mark : WriterLine → WriterLine
with_end_mark line = record line { sent = line.sent ++ items.End (told (bytes_of line.sent)) ∷ [] }

-- the end of the bytes is put once, where the writer is open
abbrev pub line_after_shut : Bool → WriterLine → WriterLine
line_after_shut finishes line = if finishes && is_open line then with_end_mark line else line
