-- What the thread of a writer keeps, and what it promises at its return.
use Rattle.std.specs.Prelude.{◌≡◌, ℕ, ◌-◌, ◌^◌, ◌≤◌, min, Bool, true, List, length, Option, vec_capacity}
use Rattle.crossbeam_queue.specs.Passes.{Pass, view, IsPassOf}
use Rattle.ring_queue.specs.{PassView, RingItem, SinkFault, Lines, bytes_of, is_end_mark, last_is, RoseTimes}
use Rattle.ring_writer.specs.declared.writer_outlet.Outlet.{Outlet}
use Rattle.ring_writer.specs.declared.writer_thread.WriterWork.{WriterWork}
use Rattle.ring_writer.specs.declared.writer_thread.WriterDone.{WriterDone}
use Rattle.ring_writer.specs.Writer.{Delivers, KeepsUp}

-- since it took so much and failed so often, the sink has what was taken, but for what its faults cost, and no more
-- faults were told than it had
pub record IsTrueToSink {K : Type 0} (took : K → Option (List ℕ)) (faults : K → ℕ) (before : Option (List ℕ)) (faults_before : ℕ) (outlet : Outlet K) (taken : List RingItem) (told : List SinkFault) : Type 0 where
  pub delivered : Delivers took before outlet (bytes_of taken)
  pub kept_up : KeepsUp took before outlet 0 (bytes_of taken)
  pub told_less : min (length told) (2 ^ 64 - 1) ≤ outlet.faults
  pub rose : RoseTimes faults_before outlet.faults (faults outlet.sink)

-- a sink that never failed was finished by the last call on it
abbrev pub IsFinished : {K : Type 0} → (K → Bool) → Outlet K → Type 0
IsFinished finished outlet = outlet.faults ≡ 0 → finished outlet.sink ≡ true

-- the thread takes the items of these queues, and sends the marks that go back
pub record HoldsSides (lines : Lines SinkFault) (taker : Pass RingItem (PassView RingItem)) (sender : Pass SinkFault (PassView SinkFault)) : Type 0 where
  pub taker_of : IsPassOf lines.items taker
  pub takes : (view taker).takes ≡ true
  pub sender_of : IsPassOf lines.back sender
  pub sends : (view sender).sends ≡ true

-- between two turns of the thread
pub record CanWork {K W R : Type 0} (work : WriterWork K W R) : Type 0 where
  pub room : 32768 ≤ vec_capacity work.buffer
  pub sides : HoldsSides work.lines.value work.taker work.sender

-- a turn of the thread keeps it true to its sink, whenever that began
abbrev pub KeepsTrue : {K W R : Type 0} → (K → Option (List ℕ)) → (K → ℕ) → WriterWork K W R → WriterWork K W R → Type 0
KeepsTrue took faults old new = (before : Option (List ℕ)) (faults_before : ℕ) → IsTrueToSink took faults before faults_before old.outlet (view old.taker).taken (view old.sender).sent → IsTrueToSink took faults before faults_before new.outlet (view new.taker).taken (view new.sender).sent

-- the thread is to begin, with a sink that stands so
pub record IsToBegin {K W R : Type 0} (took : K → Option (List ℕ)) (faults : K → ℕ) (work : WriterWork K W R) : Type 0 where
  pub can : CanWork work
  pub true_to_sink : IsTrueToSink took faults (took work.outlet.sink) (faults work.outlet.sink) work.outlet (view work.taker).taken (view work.sender).sent

-- what the thread gives back: the last item that it took is the end mark, and where the sink never failed, the last call
-- on it was the finish
pub record ThreadEnded {K : Type 0} (took : K → Option (List ℕ)) (faults : K → ℕ) (finished : K → Bool) (lines : Lines SinkFault) (begun : K) (done : WriterDone K) : Type 0 where
  pub sides : HoldsSides lines done.taker done.sender
  pub ended : last_is is_end_mark (view done.taker).taken ≡ true
  pub true_to_sink : IsTrueToSink took faults (took begun) (faults begun) done.outlet (view done.taker).taken (view done.sender).sent
  pub over : IsFinished finished done.outlet
