-- What a reader's thread has sent of what its source gave since it began.
use Rattle.std.specs.Prelude.{◌≡◌, ℕ, ◌+◌, ◌-◌, ◌^◌, ◌≤◌, min, Bool, true, false, List, [], ◌∷◌, ◌++◌, Option, IfSome}
use Rattle.std.specs.Io.KnownBytes.{Consumes}
use Rattle.port_trait.specs.{Loses}
use Rattle.ring_queue.specs.{RoseTimes, PassView, view_of, RingItem, Word, bytes_of, is_mark, is_end_mark, last_is, marks, end_marks, fault_marks}
use Rattle.ring_queue.specs.{told, asks, AddsChunks}
use Rattle.ring_queue.specs.declared.words.Word.TheVariants as words
use Rattle.ring_reader.specs.declared.reader_thread.ThreadTurn.{ThreadTurn}
use Rattle.ring_reader.specs.declared.reader_thread.ThreadTurn.TheVariants as turns

-- a source and its counts as they stood and as they stand, and what was sent: the source gave just those bytes, and
-- failed and ended at least as often as the marks tell
pub record Feeds (left_before left : Option (List ℕ)) (faults_before faults ends_before ends : ℕ) (sent : List RingItem) : Type 0 where
  pub gave : Loses left_before left (bytes_of sent)
  pub failed : RoseTimes faults_before (fault_marks sent) faults
  pub ended : RoseTimes ends_before (end_marks sent) ends

-- the bytes that were sent since are those that the reader of std beneath lost, where its bytes are known
pub record SendsLost (rest_before rest : Option (List ℕ)) (sent_before sent : List RingItem) : Type 0 where
  pub bytes : List ℕ
  pub lost : Consumes rest_before rest bytes
  pub passed : bytes_of sent ≡ bytes_of sent_before ++ bytes

-- a mark was sent last, and where that is an end, the source has nothing left
pub record EndsMarked (left : Option (List ℕ)) (sent : List RingItem) : Type 0 where
  pub marked : last_is is_mark sent ≡ true
  pub spent : last_is is_end_mark sent ≡ true → IfSome left (λ rest. rest ≡ [])

-- the thread at work: it sends items and hears words, and is so many marks ahead of what it was asked for
pub record Works (left_before left : Option (List ℕ)) (faults_before faults ends_before ends count ahead : ℕ) (items : PassView RingItem) (heard : PassView Word) : Type 0 where
  pub sends : items ≡ view_of true false items.sent []
  pub hears : heard ≡ view_of false true [] heard.taken
  pub counted : count ≡ told (bytes_of items.sent)
  pub feeds : Feeds left_before left faults_before faults ends_before ends items.sent
  pub asked : marks items.sent ≡ asks heard.taken + ahead

-- the thread at its end: it sent one mark more than it was asked for, and that last
pub record HasFed (left_before left : Option (List ℕ)) (faults_before faults ends_before ends : ℕ) (items : PassView RingItem) (heard : PassView Word) : Type 0 where
  pub sends : items ≡ view_of true false items.sent []
  pub hears : heard ≡ view_of false true [] heard.taken
  pub feeds : Feeds left_before left faults_before faults ends_before ends items.sent
  pub asked : marks items.sent ≡ asks heard.taken + 1
  pub ends_marked : EndsMarked left items.sent

-- a fact of a thread that has sent so many marks in its turn, unless its port is gone
abbrev pub OnTurned : ThreadTurn → (ℕ → Type 0) → Type 0
OnTurned turns.Sent fact = fact 0
OnTurned turns.Marked fact = fact 1
OnTurned turns.Gone fact = Unit {0}

-- a turn sent these bytes in chunks, and no mark
pub record SendsChunks (before now : PassView RingItem) (bytes : List ℕ) (ahead : ℕ) : Type 0 where
  pub unmarked : ahead ≡ 0
  pub kept : now ≡ view_of before.sends before.takes now.sent before.taken
  pub adds : AddsChunks before.sent now.sent bytes

-- a turn sent this mark
pub record SendsMark (before now : PassView RingItem) (mark : RingItem) (ahead : ℕ) : Type 0 where
  pub marked : ahead ≡ 1
  pub sent : now ≡ view_of before.sends before.takes (before.sent ++ mark ∷ []) before.taken

-- how many marks more a turn sent
abbrev pub marks_sent : Bool → ℕ
marks_sent true = 1
marks_sent false = 0

-- how far ahead the thread is after that word
abbrev pub ahead_after : Word → ℕ
ahead_after words.Ask = 0
ahead_after words.Stop = 1
