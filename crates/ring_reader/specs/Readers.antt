-- What contracts see of a reader.
use Rattle.std.specs.Prelude.{◌≡◌, ℕ, ◌+◌, ◌-◌, ◌^◌, ◌≤◌, min, Bool, true, false, ◌||◌, not, List, [], ◌∷◌, ◌++◌, length, take, drop, Option, None, Some, IfSome}
use Rattle.relay_model.specs.{Shut}
use Rattle.port_trait.specs.{Got, Begun as BeginAnswer, PortCounts, Loses, BehindSeen, PortSeen, nothing_behind, untold, Task}
use Rattle.port_trait.specs.declared.answers.Got.TheVariants as reads
use Rattle.port_trait.specs.declared.answers.Begun.TheVariants as begins
use Rattle.port_trait.specs.Serving.{Serving, rise}
use Rattle.crossbeam_queue.specs.Fifo.{Held}
use Rattle.ring_queue.specs.{PassView, IsSound, RingItem, Lines, Word, RingTally, ThreadEnding, bytes_of, is_mark, is_end_mark, last_is, marks}
use Rattle.ring_queue.specs.{end_marks, fault_marks, told, Follows, asks, IsTallied, no_tally, with_misuse}
use Rattle.ring_queue.specs.declared.items.RingItem.TheVariants as kinds
use Rattle.ring_reader.specs.declared.reader_thread.Fed.{Fed}
use Rattle.ring_reader.specs.declared.reader_start.FeedPromise.{FeedPromise}
use Rattle.ring_reader.specs.declared.reader_stage.ReaderStage.{ReaderStage}
use Rattle.ring_reader.specs.declared.reader_stage.ReaderStage.TheVariants as stages
use Rattle.ring_reader.specs.Feeding.{Feeds, marks_sent}
use Rattle.ring_reader.specs.Starting.{WillFeed}

-- a source behind a reader: what it gave since the thread began, what it has left, and how far its counts rose
pub record SourceBehind : Type 0 where
  pub gave : Option (List ℕ)
  pub left : Option (List ℕ)
  pub faults : ℕ
  pub ends : ℕ

-- a reader: what its source had left when it was made, the items that it took, the rest of the last chunk, which is
-- still to be given, and each shut
pub record ReaderState : Type 0 where
  pub had : Option (List ℕ)
  pub taken : List RingItem
  pub held : List ℕ
  -- whether the last item was a mark and no read has asked for more since
  pub marked : Bool
  pub ended : Bool
  pub begun : Bool
  pub refused : Bool
  pub tally : RingTally
  pub behind : Option SourceBehind
  pub shuts : List Shut

-- the bytes that were given
abbrev pub given : List RingItem → List ℕ → List ℕ
given taken held = take (length (bytes_of taken) - length held) (bytes_of taken)

-- the bytes that the reader gave
abbrev pub given_of : ReaderState → List ℕ
given_of reader = given reader.taken reader.held

-- it serves reads
abbrev pub served_of : ReaderState → Serving
served_of reader = record { reads = true; writes = false; misuses = reader.tally.misuses }

-- the reader may be joined: it hasn't begun, or last took a mark
abbrev pub joins_of : ReaderState → Bool
joins_of reader = not reader.begun || reader.marked

-- what is seen of the source behind a reader
abbrev pub source_seen : Option SourceBehind → BehindSeen
source_seen None = nothing_behind
source_seen (Some source) = record { gave = source.gave; took = None; faults = Some source.faults; ends = Some source.ends; left = source.left; finished = None }

-- what is seen of a reader
abbrev pub reader_seen : ReaderState → PortSeen
reader_seen reader = record untold {
  gave = Some (given_of reader);
  shuts = Some reader.shuts;
  behind = source_seen reader.behind;
  served = Some (served_of reader);
  counts = reader.tally.counts;
  begun = reader.begun;
  ended = reader.ended;
  joins = joins_of reader;
}

-- what went off the front of what is left
abbrev pub gone : Option (List ℕ) → Option (List ℕ) → Option (List ℕ)
gone None now = None
gone (Some before) None = None
gone (Some before) (Some now) = Some (take (length before - length now) before)

-- what a joined reader tells of its source
abbrev pub source_behind : {S : Type 0} → (S → Option (List ℕ)) → (S → ℕ) → (S → ℕ) → S → S → List RingItem → SourceBehind
source_behind left faults ends start source taken = record {
  gave = gone (left start) (left source);
  left = left source;
  faults = rise (faults start) (faults source) (fault_marks taken);
  ends = rise (ends start) (ends source) (end_marks taken);
}

-- the source is in the port's hand once the thread has ended
abbrev pub behind_of : {S : Type 0} → (S → Option (List ℕ)) → (S → ℕ) → (S → ℕ) → S → List RingItem → ReaderStage S → Option SourceBehind
behind_of left faults ends start taken (stages.Waiting task) = None
behind_of left faults ends start taken stages.Refused = None
behind_of left faults ends start taken (stages.Running task) = None
behind_of left faults ends start taken (stages.Over source) = Some (source_behind left faults ends start source taken)

-- the stage of a thread that was to be started
abbrev pub stage_of : {S : Type 0} → Option (Task (ThreadEnding (Fed S)) (FeedPromise S)) → ReaderStage S
stage_of None = stages.Refused
stage_of (Some task) = stages.Waiting task

-- the thread was asked to begin
abbrev pub is_begun : {S : Type 0} → ReaderStage S → Bool
is_begun (stages.Waiting task) = false
is_begun stages.Refused = false
is_begun (stages.Running task) = true
is_begun (stages.Over source) = true

-- the thread runs
abbrev pub is_running : {S : Type 0} → ReaderStage S → Bool
is_running (stages.Waiting task) = false
is_running stages.Refused = false
is_running (stages.Running task) = true
is_running (stages.Over source) = false

-- there is no thread
abbrev pub is_refused : {S : Type 0} → ReaderStage S → Bool
is_refused (stages.Waiting task) = false
is_refused stages.Refused = true
is_refused (stages.Running task) = false
is_refused (stages.Over source) = false

-- what the port took, gave and holds
pub record ReaderTaking (items : PassView RingItem) (words : PassView Word) (held : List ℕ) (marked ended : Bool) : Type 0 where
  pub takes : items.takes ≡ true
  pub sends : words.sends ≡ true
  pub rest : (front : List ℕ) × (bytes_of items.taken ≡ front ++ held)
  pub at_mark : marked ≡ true → (held ≡ []) × (last_is is_mark items.taken ≡ true)
  pub at_end : ended ≡ true → (marked ≡ true) × (last_is is_end_mark items.taken ≡ true)

-- a reader that was just made over a source with so much left, whose thread waits or couldn't be started
abbrev pub fresh_reader : Option (List ℕ) → Bool → ReaderState
fresh_reader had refused = record {
  had = had;
  taken = [];
  held = [];
  marked = false;
  ended = false;
  begun = false;
  refused = refused;
  tally = no_tally;
  behind = None;
  shuts = [];
}

-- how far the port has come with its thread
abbrev pub AtStage : {S : Type 0} → (S → Option (List ℕ)) → (S → ℕ) → (S → ℕ) → Lines Word → S → PassView RingItem → PassView Word → Bool → ReaderStage S → Type 0
AtStage left faults ends lines start items words marked (stages.Waiting task) = WillFeed left faults ends lines start task × (items.taken ≡ []) × (words.sent ≡ []) × (marked ≡ false)
AtStage left faults ends lines start items words marked stages.Refused = (items.taken ≡ []) × (marked ≡ false)
AtStage left faults ends lines start items words marked (stages.Running task) = WillFeed left faults ends lines start task × (marks items.taken ≡ asks words.sent + marks_sent marked)
AtStage left faults ends lines start items words marked (stages.Over source) = Feeds (left start) (left source) (faults start) (faults source) (ends start) (ends source) items.taken
    × (last_is is_end_mark items.taken ≡ true → IfSome (left source) (λ rest. rest ≡ []))

-- all that stays so of a reader, beside that its passes are those of its lines
pub record IsReading {S : Type 0} (left : S → Option (List ℕ)) (faults ends : S → ℕ) (lines : Lines Word) (start : S) (items : PassView RingItem) (words : PassView Word) (held : List ℕ) (marked ended : Bool) (misuses : ℕ) (counts : PortCounts) (stage : ReaderStage S) : Type 0 where
  pub taking : ReaderTaking items words held marked ended
  pub counted : IsTallied misuses (fault_marks items.taken) (end_marks items.taken) counts
  pub at_stage : AtStage left faults ends lines start items words marked stage

-- what a read that gave so many bytes did: it gave the rest of a chunk that was held, or took a chunk
abbrev pub GivesStep : List ℕ → ReaderState → ReaderState → List ℕ → ℕ → Type 0
GivesStep (b ∷ bs) old new into n = (new.taken ≡ old.taken) × (take n into ≡ take n (b ∷ bs)) × (new.held ≡ drop n (b ∷ bs))
GivesStep [] old new into n = (chunk : List ℕ) × (new.taken ≡ old.taken ++ kinds.Chunk chunk ∷ []) × (take n into ≡ take n chunk) × (new.held ≡ drop n chunk)

-- what a read did by its answer: each takes one item and no other, or finds the queue empty
abbrev pub ReadStep : ReaderState → ReaderState → List ℕ → Got → Type 0
ReadStep old new into (reads.Bytes n) = GivesStep old.held old new into n
ReadStep old new into reads.Empty = ⊥
ReadStep old new into reads.End = (old.held ≡ []) × (new.taken ≡ old.taken ++ kinds.End (told (bytes_of old.taken)) ∷ [])
ReadStep old new into reads.NotYet = (old.held ≡ []) × (new.taken ≡ old.taken) × Held 0 (λ waiting. (sent : List RingItem) × (sent ≡ old.taken ++ waiting) × IsSound Follows [] sent)
ReadStep old new into reads.Failed = (old.held ≡ []) × (new.taken ≡ old.taken ++ kinds.Fault (told (bytes_of old.taken)) ∷ [])

-- whether a mark stands behind this answer
abbrev pub is_of_mark : Got → Bool
is_of_mark (reads.Bytes n) = false
is_of_mark reads.Empty = false
is_of_mark reads.End = true
is_of_mark reads.NotYet = false
is_of_mark reads.Failed = true

-- what no read changes
pub record KeptByRead (old new : ReaderState) : Type 0 where
  pub had : new.had ≡ old.had
  pub begun : new.begun ≡ old.begun
  pub refused : new.refused ≡ old.refused
  pub misuses : new.tally.misuses ≡ old.tally.misuses
  pub empties : new.tally.counts.empties ≡ old.tally.counts.empties
  pub behind : new.behind ≡ old.behind

-- a call that a reader doesn't serve is counted, and changes nothing else
abbrev pub misused_reader : ReaderState → ReaderState
misused_reader reader = record reader { tally = with_misuse reader.tally }

-- a begin by its answer: it fails exactly where no thread could be started
abbrev pub BeginStep : ReaderState → ReaderState → BeginAnswer → Type 0
BeginStep old new begins.Begun = (old.refused ≡ false) × (new ≡ record old { begun = true })
BeginStep old new begins.Failed = (old.refused ≡ true) × (new ≡ misused_reader old)
BeginStep old new begins.Memory = ⊥

-- a begun reader that has joined tells its source, which had what was given and then what it has left
abbrev pub TellsSource : ReaderState → Type 0
TellsSource reader = reader.begun ≡ true → (source : SourceBehind) × (reader.behind ≡ Some source) × Loses reader.had source.left (given_of reader)
