-- What each step of a reader's thread keeps.
use Rattle.std.proofs.Common.{◌≡◌, ℕ, ◌+◌, ◌-◌, ◌^◌, ◌≤◌, min, true, false, List, [], ◌∷◌, ◌++◌, length, take, drop, refl, sym, ap, ◌∙◌, append_assoc, take-add, arith}
use Rattle.std.specs.Prelude.{Option, None, Some, option_map, IfSome}
use Rattle.std.specs.List.{count_by}
use Rattle.std.proofs.lemmas.List.{append-nil, length-append}
use Rattle.std.proofs.lemmas.Bool.{false≢true}
use Rattle.std.specs.Io.KnownBytes.{Keeps, Consumes}
use Rattle.port_trait.specs.Streams.{Loses}
use Rattle.ring_queue.specs.declared.roles.PassView.{PassView}
use Rattle.ring_queue.specs.Order.{view_of}
use Rattle.ring_queue.specs.declared.items.RingItem.{RingItem}
use Rattle.ring_queue.specs.declared.items.RingItem.TheVariants as items
use Rattle.ring_queue.specs.declared.words.Word.{Word}
use Rattle.ring_queue.specs.Items.{item_bytes, bytes_of, is_mark, is_end_mark, is_fault_mark, last_is, marks, end_marks, fault_marks, told, AddsChunks}
use Rattle.ring_reader.specs.Feeding.{EndsMarked, OnTurned, SendsChunks, SendsLost, SendsMark, Works}
use Rattle.ring_reader.specs.declared.reader_thread.ThreadTurn.{ThreadTurn}
use Rattle.ring_reader.specs.declared.reader_thread.ThreadTurn.TheVariants as turns
use Rattle.ring_queue.specs.Tallies.{RoseTimes}
use Rattle.ring_queue.proofs.ItemLists.{bytes_snoc, count_snoc, one_counted, last_snoc}

-- what went off the front of what is left, and then more of it
loses_more : (a b c : Option (List ℕ)) (xs ys : List ℕ) → Loses a b xs → Loses b c ys → Loses a c (xs ++ ys)
loses_more a b None xs ys first then = first ∙ ap (option_map (λ rest. xs ++ rest)) then
loses_more a b (Some rest) xs ys first then = first ∙ ap (option_map (λ more. xs ++ more)) then ∙ ap Some (sym (append_assoc xs ys rest))

rose_more : (a m b n c : ℕ) → RoseTimes a m b → RoseTimes b n c → RoseTimes a (m + n) c
rose_more a m b n c first then = omega (arith, first, then)

-- a sender is one still after a push
sender_kept : (v w : PassView RingItem) (sent : List RingItem) → v ≡ view_of true false v.sent [] → w ≡ view_of v.sends v.takes sent v.taken → w ≡ view_of true false w.sent []
sender_kept v w sent mine is = is ∙ λ i. view_of ((mine i).sends) ((mine i).takes) (sym (ap (λ (u : PassView RingItem). u.sent) is) i) ((mine i).taken)

-- a turn that read bytes
works_chunks : (l0 l1 l2 : Option (List ℕ)) (f0 f1 f2 e0 e1 e2 count n count' : ℕ) (v w : PassView RingItem) (heard : PassView Word) (added : List ℕ) →
    Works l0 l1 f0 f1 e0 e1 count 0 v heard → Loses l1 l2 added → f1 ≤ f2 → e1 ≤ e2 → w ≡ view_of v.sends v.takes w.sent v.taken → AddsChunks v.sent w.sent added → length added ≡ n → count' ≡ min (count + n) (2 ^ 64 - 1) → Works l0 l2 f0 f2 e0 e2 count' 0 w heard
works_chunks l0 l1 l2 f0 f1 f2 e0 e1 e2 count n count' v w heard added so gone faults ends is adds many counted = record {
  sends = sender_kept v w w.sent so.sends is;
  hears = so.hears;
  counted = omega (arith, so.counted, counted, many, ap length adds.bytes, length-append (bytes_of v.sent) added);
  feeds = record {
    gave = rw adds.bytes (loses_more l0 l1 l2 (bytes_of v.sent) added so.feeds.gave gone);
    failed = omega (arith, so.feeds.failed, adds.no_faults, faults);
    ended = omega (arith, so.feeds.ended, adds.no_ends, ends);
  };
  asked = omega (arith, so.asked, adds.no_marks);
}

-- a turn that ended with this mark
works_mark : (l0 l1 l2 : Option (List ℕ)) (f0 f1 f2 e0 e1 e2 count : ℕ) (v w : PassView RingItem) (heard : PassView Word) (mark : RingItem) →
    item_bytes mark ≡ [] → is_mark mark ≡ true → Works l0 l1 f0 f1 e0 e1 count 0 v heard → l2 ≡ l1 → RoseTimes f1 (fault_marks (mark ∷ [])) f2 → RoseTimes e1 (end_marks (mark ∷ [])) e2 → w ≡ view_of v.sends v.takes (v.sent ++ mark ∷ []) v.taken → Works l0 l2 f0 f2 e0 e2 count 1 w heard
works_mark l0 l1 l2 f0 f1 f2 e0 e1 e2 count v w heard mark none marks so same faults ends is =
    let sent : w.sent ≡ v.sent ++ mark ∷ [] = ap (λ (u : PassView RingItem). u.sent) is in
    let bytes : bytes_of w.sent ≡ bytes_of v.sent = ap bytes_of sent ∙ bytes_snoc v.sent mark ∙ ap (λ more. bytes_of v.sent ++ more) none ∙ append-nil (bytes_of v.sent) in
    record {
      sends = sender_kept v w (v.sent ++ mark ∷ []) so.sends is;
      hears = so.hears;
      counted = so.counted ∙ ap told (sym bytes);
      feeds = record {
        gave = rw (same, bytes) so.feeds.gave;
        failed = rw sent (rw (count_snoc is_fault_mark v.sent mark) (rose_more f0 (fault_marks v.sent) f1 (fault_marks (mark ∷ [])) f2 so.feeds.failed faults));
        ended = rw sent (rw (count_snoc is_end_mark v.sent mark) (rose_more e0 (end_marks v.sent) e1 (end_marks (mark ∷ [])) e2 so.feeds.ended ends));
      };
      asked = omega (arith, so.asked, ap (count_by is_mark) sent, count_snoc is_mark v.sent mark, one_counted mark marks);
    }

works_end : (l0 l1 l2 : Option (List ℕ)) (f0 f1 f2 e0 e1 e2 count : ℕ) (v w : PassView RingItem) (heard : PassView Word) (told : ℕ) →
    Works l0 l1 f0 f1 e0 e1 count 0 v heard → l2 ≡ l1 → f1 ≤ f2 → min (e1 + 1) (2 ^ 64 - 1) ≤ e2 → w ≡ view_of v.sends v.takes (v.sent ++ items.End told ∷ []) v.taken → Works l0 l2 f0 f2 e0 e2 count 1 w heard
works_end l0 l1 l2 f0 f1 f2 e0 e1 e2 count v w heard told so same faults ends is = works_mark l0 l1 l2 f0 f1 f2 e0 e1 e2 count v w heard (items.End told) refl refl so same (omega (arith, faults)) ends is

works_fault : (l0 l1 l2 : Option (List ℕ)) (f0 f1 f2 e0 e1 e2 count : ℕ) (v w : PassView RingItem) (heard : PassView Word) (told : ℕ) →
    Works l0 l1 f0 f1 e0 e1 count 0 v heard → l2 ≡ l1 → min (f1 + 1) (2 ^ 64 - 1) ≤ f2 → e1 ≤ e2 → w ≡ view_of v.sends v.takes (v.sent ++ items.Fault told ∷ []) v.taken → Works l0 l2 f0 f2 e0 e2 count 1 w heard
works_fault l0 l1 l2 f0 f1 f2 e0 e1 e2 count v w heard told so same faults ends is = works_mark l0 l1 l2 f0 f1 f2 e0 e1 e2 count v w heard (items.Fault told) refl refl so same faults (omega (arith, ends)) is

marked_end : (left : Option (List ℕ)) (v w : PassView RingItem) (told : ℕ) → IfSome left (λ rest. rest ≡ []) → w ≡ view_of v.sends v.takes (v.sent ++ items.End told ∷ []) v.taken → EndsMarked left w.sent
marked_end left v w told spent is = record { marked = ap (λ (u : PassView RingItem). last_is is_mark u.sent) is ∙ last_snoc is_mark v.sent (items.End told); spent = λ _. spent }

marked_fault : (left : Option (List ℕ)) (v w : PassView RingItem) (told : ℕ) → w ≡ view_of v.sends v.takes (v.sent ++ items.Fault told ∷ []) v.taken → EndsMarked left w.sent
marked_fault left v w told is = record {
  marked = ap (λ (u : PassView RingItem). last_is is_mark u.sent) is ∙ last_snoc is_mark v.sent (items.Fault told);
  spent = λ ended. absurd (false≢true (sym (ap (λ (u : PassView RingItem). last_is is_end_mark u.sent) is ∙ last_snoc is_end_mark v.sent (items.Fault told)) ∙ ended));
}

-- chunks were sent, and the reader beneath lost their bytes
chunks_lost : (before now : Option (List ℕ)) (sent sent' : List RingItem) (added : List ℕ) → Consumes before now added → AddsChunks sent sent' added → SendsLost before now sent sent'
chunks_lost before now sent sent' added gone adds = record { bytes = added; lost = gone; passed = adds.bytes }

-- the reader beneath kept its bytes
kept_none : (before now : Option (List ℕ)) → Keeps before now → Consumes before now []
kept_none None now kept = tt
kept_none (Some x) None kept = absurd kept
kept_none (Some x) (Some y) kept = sym kept

-- a mark was sent, and nothing was lost
mark_lost : (before now : Option (List ℕ)) (v w : PassView RingItem) (mark : RingItem) → item_bytes mark ≡ [] → Keeps before now → w ≡ view_of v.sends v.takes (v.sent ++ mark ∷ []) v.taken → SendsLost before now v.sent w.sent
mark_lost before now v w mark none kept is = record {
  bytes = [];
  lost = kept_none before now kept;
  passed = ap bytes_of (ap (λ (u : PassView RingItem). u.sent) is) ∙ bytes_snoc v.sent mark ∙ ap (λ more. bytes_of v.sent ++ more) none;
}

-- what a turn that read bytes, met the end or failed comes to, by what it sent
pub turn_works_chunks : (turn : ThreadTurn) (l0 l1 l2 : Option (List ℕ)) (f0 f1 f2 e0 e1 e2 count n count' : ℕ) (v w : PassView RingItem) (heard : PassView Word) (added : List ℕ) →
    Works l0 l1 f0 f1 e0 e1 count 0 v heard → Loses l1 l2 added → f1 ≤ f2 → e1 ≤ e2 → length added ≡ n → count' ≡ min (count + n) (2 ^ 64 - 1) → OnTurned turn (SendsChunks v w added) → OnTurned turn (λ ahead. Works l0 l2 f0 f2 e0 e2 count' ahead w heard)
turn_works_chunks turns.Sent l0 l1 l2 f0 f1 f2 e0 e1 e2 count n count' v w heard added so gone faults ends many counted sent = works_chunks l0 l1 l2 f0 f1 f2 e0 e1 e2 count n count' v w heard added so gone faults ends sent.kept sent.adds many counted
turn_works_chunks turns.Marked l0 l1 l2 f0 f1 f2 e0 e1 e2 count n count' v w heard added so gone faults ends many counted sent = absurd (omega (arith, sent.unmarked))
turn_works_chunks turns.Gone l0 l1 l2 f0 f1 f2 e0 e1 e2 count n count' v w heard added so gone faults ends many counted sent = tt

pub turn_loses_chunks : (turn : ThreadTurn) (before now : Option (List ℕ)) (v w : PassView RingItem) (added : List ℕ) → Consumes before now added → OnTurned turn (SendsChunks v w added) → OnTurned turn (λ _. SendsLost before now v.sent w.sent)
turn_loses_chunks turns.Sent before now v w added gone sent = chunks_lost before now v.sent w.sent added gone sent.adds
turn_loses_chunks turns.Marked before now v w added gone sent = chunks_lost before now v.sent w.sent added gone sent.adds
turn_loses_chunks turns.Gone before now v w added gone sent = tt

pub turn_works_end : (turn : ThreadTurn) (l0 l1 l2 : Option (List ℕ)) (f0 f1 f2 e0 e1 e2 count : ℕ) (v w : PassView RingItem) (heard : PassView Word) (told : ℕ) →
    Works l0 l1 f0 f1 e0 e1 count 0 v heard → l2 ≡ l1 → f1 ≤ f2 → min (e1 + 1) (2 ^ 64 - 1) ≤ e2 → OnTurned turn (SendsMark v w (items.End told)) → OnTurned turn (λ ahead. Works l0 l2 f0 f2 e0 e2 count ahead w heard)
turn_works_end turns.Sent l0 l1 l2 f0 f1 f2 e0 e1 e2 count v w heard told so same faults ends sent = absurd (omega (arith, sent.marked))
turn_works_end turns.Marked l0 l1 l2 f0 f1 f2 e0 e1 e2 count v w heard told so same faults ends sent = works_end l0 l1 l2 f0 f1 f2 e0 e1 e2 count v w heard told so same faults ends sent.sent
turn_works_end turns.Gone l0 l1 l2 f0 f1 f2 e0 e1 e2 count v w heard told so same faults ends sent = tt

pub turn_works_fault : (turn : ThreadTurn) (l0 l1 l2 : Option (List ℕ)) (f0 f1 f2 e0 e1 e2 count : ℕ) (v w : PassView RingItem) (heard : PassView Word) (told : ℕ) →
    Works l0 l1 f0 f1 e0 e1 count 0 v heard → l2 ≡ l1 → min (f1 + 1) (2 ^ 64 - 1) ≤ f2 → e1 ≤ e2 → OnTurned turn (SendsMark v w (items.Fault told)) → OnTurned turn (λ ahead. Works l0 l2 f0 f2 e0 e2 count ahead w heard)
turn_works_fault turns.Sent l0 l1 l2 f0 f1 f2 e0 e1 e2 count v w heard told so same faults ends sent = absurd (omega (arith, sent.marked))
turn_works_fault turns.Marked l0 l1 l2 f0 f1 f2 e0 e1 e2 count v w heard told so same faults ends sent = works_fault l0 l1 l2 f0 f1 f2 e0 e1 e2 count v w heard told so same faults ends sent.sent
turn_works_fault turns.Gone l0 l1 l2 f0 f1 f2 e0 e1 e2 count v w heard told so same faults ends sent = tt

pub turn_loses_none : (turn : ThreadTurn) (before now : Option (List ℕ)) (v w : PassView RingItem) (mark : RingItem) → item_bytes mark ≡ [] → Keeps before now → OnTurned turn (SendsMark v w mark) → OnTurned turn (λ _. SendsLost before now v.sent w.sent)
turn_loses_none turns.Sent before now v w mark none kept sent = mark_lost before now v w mark none kept sent.sent
turn_loses_none turns.Marked before now v w mark none kept sent = mark_lost before now v w mark none kept sent.sent
turn_loses_none turns.Gone before now v w mark none kept sent = tt

pub turn_marks_end : (turn : ThreadTurn) (left : Option (List ℕ)) (v w : PassView RingItem) (told : ℕ) → IfSome left (λ rest. rest ≡ []) → OnTurned turn (SendsMark v w (items.End told)) → turn ≡ turns.Marked → EndsMarked left w.sent
turn_marks_end turn left v w told spent sent is = let marked : OnTurned turns.Marked (SendsMark v w (items.End told)) = rw is at sent in marked_end left v w told spent marked.sent

pub turn_marks_fault : (turn : ThreadTurn) (left : Option (List ℕ)) (v w : PassView RingItem) (told : ℕ) → OnTurned turn (SendsMark v w (items.Fault told)) → turn ≡ turns.Marked → EndsMarked left w.sent
turn_marks_fault turn left v w told sent is = let marked : OnTurned turns.Marked (SendsMark v w (items.Fault told)) = rw is at sent in marked_fault left v w told marked.sent
