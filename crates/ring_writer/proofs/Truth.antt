-- What a writer's thread keeps true of its sink.
use Rattle.std.proofs.Common.{◌≡◌, ℕ, ◌+◌, ◌<◌, ◌≤◌, Bool, true, false, not, List, ◌++◌, length, refl, sym, ap, ◌∙◌, subst, arith}
use Rattle.std.specs.Prelude.{Option}
use Rattle.port_trait.specs.Counting.{Counted}
use Rattle.ring_queue.specs.declared.items.RingItem.{RingItem}
use Rattle.ring_queue.specs.declared.words.SinkFault.{SinkFault}
use Rattle.ring_writer.specs.declared.writer_outlet.Outlet.{Outlet}
use Rattle.ring_queue.specs.declared.lines.Lines.{Lines}
use Rattle.ring_writer.specs.declared.writer_thread.WriterWork.{WriterWork}
use Rattle.ring_writer.specs.declared.writer_thread.WriterDone.{WriterDone}
use Rattle.crossbeam_queue.specs.Passes.{view}
use Rattle.ring_queue.specs.Items.{bytes_of, is_end_mark, last_is}
use Rattle.ring_writer.specs.Writer.{Delivers, KeepsUp, faults_after}
use Rattle.ring_writer.specs.WriterThread.{IsTrueToSink, IsFinished, HoldsSides, CanWork, ThreadEnded}
use Rattle.ring_writer.proofs.Delivery.{dropped, kept_drops}

module _ {K : Type 0} (took : K → Option (List ℕ)) (faults : K → ℕ) (before : Option (List ℕ)) (faults_before : ℕ) where
  -- a call on the sink that came to its end well
  pub stays_true : (old new : Outlet K) (taken taken' : List RingItem) (told : List SinkFault) → IsTrueToSink took faults before faults_before old taken told → Delivers took before new (bytes_of taken') → KeepsUp took before new 0 (bytes_of taken') → Counted (not true) (faults old.sink) (faults new.sink) → new.faults ≡ faults_after true old.faults → IsTrueToSink took faults before faults_before new taken' told
  stays_true old new taken taken' told was delivered kept counted seen = record {
    delivered = delivered;
    kept_up = kept;
    told_less = omega (arith, was.told_less, seen);
    rose = omega (arith, was.rose, counted.grew, seen);
  }

  -- a call that failed, of which at most one mark tells
  pub fails_true : (old new : Outlet K) (taken taken' : List RingItem) (told told' : List SinkFault) → IsTrueToSink took faults before faults_before old taken told → Delivers took before new (bytes_of taken') → KeepsUp took before new 0 (bytes_of taken') → Counted (not false) (faults old.sink) (faults new.sink) → new.faults ≡ faults_after false old.faults → length told' ≤ length told + 1 → IsTrueToSink took faults before faults_before new taken' told'
  fails_true old new taken taken' told told' was delivered kept counted seen once = let rose = counted.rose refl in record {
    delivered = delivered;
    kept_up = kept;
    told_less = omega (arith, was.told_less, seen, once);
    rose = omega (arith, was.rose, rose, seen);
  }

-- what was gathered is what was taken on
pub gathered : {K : Type 0} (took : K → Option (List ℕ)) (before : Option (List ℕ)) (outlet : Outlet K) (taken taken' : List RingItem) (buffer slice : List ℕ) → bytes_of taken' ≡ bytes_of taken ++ buffer → slice ≡ buffer → Delivers took before outlet (bytes_of taken ++ slice) → Delivers took before outlet (bytes_of taken')
gathered took before outlet taken taken' buffer slice more all was = subst (λ (bytes : List ℕ). Delivers took before outlet bytes) (ap (λ rest. bytes_of taken ++ rest) all ∙ sym more) was

-- and then more of them were dropped
pub dropped_too : {K : Type 0} (took : K → Option (List ℕ)) (before : Option (List ℕ)) (outlet : Outlet K) (taken taken' : List RingItem) → 0 < outlet.faults → (more : List ℕ) × (bytes_of taken' ≡ bytes_of taken ++ more) × (length more ≤ 32768) → Delivers took before outlet (bytes_of taken) → Delivers took before outlet (bytes_of taken')
dropped_too took before outlet taken taken' failed on was = subst (λ (bytes : List ℕ). Delivers took before outlet bytes) (sym on.1) (dropped outlet.faults outlet.sound before (took outlet.sink) (bytes_of taken) on.0 failed was)

-- what was gathered keeps up, and may lose so many bytes more
pub gathered_up : {K : Type 0} (took : K → Option (List ℕ)) (before : Option (List ℕ)) (outlet : Outlet K) (spare : ℕ) (taken taken' : List RingItem) (buffer slice : List ℕ) → bytes_of taken' ≡ bytes_of taken ++ buffer → slice ≡ buffer → KeepsUp took before outlet spare (bytes_of taken ++ slice) → KeepsUp took before outlet spare (bytes_of taken')
gathered_up took before outlet spare taken taken' buffer slice more all was = subst (λ (bytes : List ℕ). KeepsUp took before outlet spare bytes) (ap (λ rest. bytes_of taken ++ rest) all ∙ sym more) was

pub dropped_up : {K : Type 0} (took : K → Option (List ℕ)) (before : Option (List ℕ)) (outlet : Outlet K) (taken taken' : List RingItem) → (more : List ℕ) × (bytes_of taken' ≡ bytes_of taken ++ more) × (length more ≤ 32768) → KeepsUp took before outlet 32768 (bytes_of taken) → KeepsUp took before outlet 0 (bytes_of taken')
dropped_up took before outlet taken taken' on was = subst (λ (bytes : List ℕ). KeepsUp took before outlet 0 bytes) (sym on.1) (kept_drops outlet.faults before (took outlet.sink) (bytes_of taken) on.0 on.2 was)

-- after the end mark there is no more to do
pub ends_true : {K W R : Type 0} (took : K → Option (List ℕ)) (faults : K → ℕ) (finished : K → Bool) (lines : Lines SinkFault) (begun : K) (work : WriterWork K W R) (done : WriterDone K) → work.lines.value ≡ lines → CanWork work → last_is is_end_mark (view work.taker).taken ≡ true → IsTrueToSink took faults (took begun) (faults begun) work.outlet (view work.taker).taken (view work.sender).sent → IsFinished finished work.outlet → done ≡ record { outlet = work.outlet; taker = work.taker; sender = work.sender } → ThreadEnded took faults finished lines begun done
ends_true took faults finished lines begun work done same can ended truth over is = rw is (record {
  sides = subst (λ (all : Lines SinkFault). HoldsSides all work.taker work.sender) same can.sides;
  ended = ended;
  true_to_sink = truth;
  over = over;
})
