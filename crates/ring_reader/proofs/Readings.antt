-- What each call of a reader's port keeps.
use Rattle.std.proofs.Common.{◌≡◌, ◌≢◌, ℕ, ◌+◌, ◌-◌, ◌^◌, ◌≤◌, ◌<◌, min, max, Bool, true, false, List, [], ◌∷◌, ◌++◌, length, take, drop, refl, sym, ap, ◌∙◌, subst, append_assoc, arith}
use Rattle.std.specs.Prelude.{Option, None, Some, IfSome, nat_lt, if◌then◌else◌}
use Rattle.std.proofs.lemmas.List.{append-nil, length-append, take-append-drop}
use Rattle.std.proofs.Math.Seq.{take-append_seam}
use Rattle.std.proofs.lemmas.Bool.{false≢true, ltb-true}
use Rattle.port_trait.specs.declared.answers.Got.TheVariants as reads
use Rattle.port_trait.specs.declared.counts.PortCounts.{PortCounts}
use Rattle.port_trait.specs.Meanings.{Gives, Behind}
use Rattle.port_trait.specs.Streams.{Loses}
use Rattle.port_trait.specs.Serving.{rise}
use Rattle.ring_queue.specs.declared.roles.PassView.{PassView}
use Rattle.ring_queue.specs.Order.{view_of}
use Rattle.ring_queue.specs.declared.items.RingItem.{RingItem}
use Rattle.ring_queue.specs.declared.items.RingItem.TheVariants as kinds
use Rattle.ring_queue.specs.declared.lines.Lines.{Lines}
use Rattle.ring_queue.specs.declared.words.Word.{Word}
use Rattle.ring_queue.specs.declared.words.Word.TheVariants as words
use Rattle.ring_reader.specs.declared.reader_stage.ReaderStage.{ReaderStage}
use Rattle.ring_reader.specs.declared.reader_stage.ReaderStage.TheVariants as stages
use Rattle.ring_queue.specs.Items.{item_bytes, bytes_of, is_mark, is_end_mark, is_fault_mark, last_is, marks, end_marks, fault_marks}
use Rattle.ring_queue.specs.Words.{asks, is_ask}
use Rattle.ring_reader.specs.Feeding.{Feeds, marks_sent}
use Rattle.ring_queue.specs.Tallies.{RoseTimes, IsTallied}
use Rattle.ring_reader.specs.Readers.{AtStage, IsReading, ReaderState, SourceBehind, GivesStep, given, gone, source_behind, behind_of, is_begun, is_running}
use Rattle.ring_queue.proofs.ItemLists.{bytes_snoc, count_append, count_snoc, one_counted, last_snoc, drained}

-- a thread that sent no more marks than were asked for, and one last, sent what was taken
pub all_taken : (sent taken rest : List RingItem) (asked heard more : List Word) → sent ≡ taken ++ rest → asked ++ words.Stop ∷ [] ≡ heard ++ more → last_is is_mark sent ≡ true → marks sent ≡ asks heard + 1 → marks taken ≡ asks asked + 1 → sent ≡ taken
all_taken sent taken rest asked heard more so so' ends few many =
    let fewer : marks (taken ++ rest) ≤ marks taken = omega (arith, few, many, ap marks so, ap asks so', count_snoc is_ask asked words.Stop, count_append is_ask heard more) in
    let none = drained taken rest (sym (ap (last_is is_mark) so) ∙ ends) fewer in
    so ∙ ap (λ r. taken ++ r) none ∙ append-nil taken

-- the bytes before those that are held
pub given_front : (all front held : List ℕ) → all ≡ front ++ held → take (length all - length held) all ≡ front
given_front all front held is =
    let e : length all - length held ≡ length front = omega (arith, ap length is, length-append front held) in
    (λ i. take (e i) (is i)) ∙ take-append_seam front held

-- what counts neither a fault nor an end
tallied_as_before : {misuses fault_marks end_marks : ℕ} (counts counts' : PortCounts) → counts'.faults ≡ counts.faults → counts'.ends ≡ counts.ends → IsTallied misuses fault_marks end_marks counts → IsTallied misuses fault_marks end_marks counts'
tallied_as_before counts counts' same_faults same_ends so = record { faults = omega (arith, so.faults, same_faults); misused = omega (arith, so.misused, same_faults); ends = omega (arith, so.ends, same_ends) }

unmarked : (marked : Bool) (held : List ℕ) → (marked ≡ true → held ≡ []) → held ≢ [] → marked ≡ false
unmarked true held so some = absurd (some (so refl))
unmarked false held so some = refl

module _ {S : Type 0} (left : S → Option (List ℕ)) (faults ends : S → ℕ) (lines : Lines Word) (start : S) (misuses : ℕ) where
  abbrev Reading : PassView RingItem → PassView Word → List ℕ → Bool → Bool → PortCounts → ReaderStage S → Type 0
  Reading items words held marked ended counts stage = IsReading left faults ends lines start items words held marked ended misuses counts stage

  -- a read gave of what was held
  pub gives_held : (items : PassView RingItem) (words : PassView Word) (held : List ℕ) (marked ended : Bool) (counts : PortCounts) (stage : ReaderStage S) (n : ℕ) →
      Reading items words held marked ended counts stage → held ≢ [] → Reading items words (drop n held) false false counts stage
  gives_held items words held marked ended counts stage n so some = record {
    taking = record {
      takes = so.taking.takes;
      sends = so.taking.sends;
      rest = (so.taking.rest.0 ++ take n held, so.taking.rest.1 ∙ ap (λ r. so.taking.rest.0 ++ r) (sym (take-append-drop n held)) ∙ sym (append_assoc so.taking.rest.0 (take n held) (drop n held)));
      at_mark = λ is. absurd (false≢true is);
      at_end = λ is. absurd (false≢true is);
    };
    counted = so.counted;
    at_stage = subst (λ m. AtStage left faults ends lines start items words m stage) (unmarked marked held (λ is. (so.taking.at_mark is).0) some) so.at_stage;
  }

  idle_stage : (items : PassView RingItem) (words : PassView Word) (marked : Bool) (stage : ReaderStage S) → is_running stage ≡ false → AtStage left faults ends lines start items words marked stage → AtStage left faults ends lines start items words false stage
  idle_stage items words marked (stages.Waiting task) idle at = (at.0, at.1, at.2, refl)
  idle_stage items words marked stages.Refused idle at = (at.0, refl)
  idle_stage items words marked (stages.Running task) idle at = absurd (false≢true (sym idle))
  idle_stage items words marked (stages.Over source) idle at = at

  -- a read found the queue empty, and nobody sends
  pub finds_idle : (items items' : PassView RingItem) (words : PassView Word) (held : List ℕ) (marked ended : Bool) (counts counts' : PortCounts) (stage : ReaderStage S) →
      Reading items words held marked ended counts stage → is_running stage ≡ false → items' ≡ items → counts'.faults ≡ counts.faults → counts'.ends ≡ counts.ends → Reading items' words held false false counts' stage
  finds_idle items items' words held marked ended counts counts' stage so idle same same_faults same_ends = rw same (record {
    taking = record {
      takes = so.taking.takes;
      sends = so.taking.sends;
      rest = so.taking.rest;
      at_mark = λ is. absurd (false≢true is);
      at_end = λ is. absurd (false≢true is);
    };
    counted = tallied_as_before counts counts' same_faults same_ends so.counted;
    at_stage = idle_stage items words marked stage idle so.at_stage;
  })

  running_stage : (items items' : PassView RingItem) (words words' : PassView Word) (marked marked' : Bool) (stage : ReaderStage S) → is_running stage ≡ true → asks words'.sent ≡ asks words.sent + marks_sent marked → marks items'.taken ≡ marks items.taken + marks_sent marked' → AtStage left faults ends lines start items words marked stage → AtStage left faults ends lines start items' words' marked' stage
  running_stage items items' words words' marked marked' (stages.Waiting task) runs asked more at = absurd (false≢true runs)
  running_stage items items' words words' marked marked' stages.Refused runs asked more at = absurd (false≢true runs)
  running_stage items items' words words' marked marked' (stages.Running task) runs asked more at = (at.0, omega (arith, at.1, asked, more))
  running_stage items items' words words' marked marked' (stages.Over source) runs asked more at = absurd (false≢true runs)

  -- a read found the queue empty, and had asked for more where the last item was a mark
  pub finds_empty : (items items' : PassView RingItem) (words words' : PassView Word) (held : List ℕ) (marked ended : Bool) (counts counts' : PortCounts) (stage : ReaderStage S) →
      Reading items words held marked ended counts stage → is_running stage ≡ true → words'.sends ≡ true → asks words'.sent ≡ asks words.sent + marks_sent marked → items' ≡ items → counts'.faults ≡ counts.faults → counts'.ends ≡ counts.ends → Reading items' words' held false false counts' stage
  finds_empty items items' words words' held marked ended counts counts' stage so runs sends asked same same_faults same_ends = rw same (record {
    taking = record {
      takes = so.taking.takes;
      sends = sends;
      rest = so.taking.rest;
      at_mark = λ is. absurd (false≢true is);
      at_end = λ is. absurd (false≢true is);
    };
    counted = tallied_as_before counts counts' same_faults same_ends so.counted;
    at_stage = running_stage items items words words' marked false stage runs asked (omega arith) so.at_stage;
  })

  -- a read took a chunk and gave of it
  pub takes_chunk : (items items' : PassView RingItem) (words words' : PassView Word) (held : List ℕ) (marked ended : Bool) (counts : PortCounts) (stage : ReaderStage S) (chunk : List ℕ) (n : ℕ) →
      Reading items words held marked ended counts stage → is_running stage ≡ true → words'.sends ≡ true → asks words'.sent ≡ asks words.sent + marks_sent marked → items' ≡ view_of items.sends items.takes items.sent (items.taken ++ kinds.Chunk chunk ∷ []) → Reading items' words' (drop n chunk) false false counts stage
  takes_chunk items items' words words' held marked ended counts stage chunk n so runs sends asked is =
      let taken : items'.taken ≡ items.taken ++ kinds.Chunk chunk ∷ [] = ap (λ (v : PassView RingItem). v.taken) is in
      let all : bytes_of items'.taken ≡ bytes_of items.taken ++ chunk = ap bytes_of taken ∙ bytes_snoc items.taken (kinds.Chunk chunk) in
      record {
        taking = record {
          takes = ap (λ (v : PassView RingItem). v.takes) is ∙ so.taking.takes;
          sends = sends;
          rest = (bytes_of items.taken ++ take n chunk, all ∙ ap (λ r. bytes_of items.taken ++ r) (sym (take-append-drop n chunk)) ∙ sym (append_assoc (bytes_of items.taken) (take n chunk) (drop n chunk)));
          at_mark = λ is. absurd (false≢true is);
          at_end = λ is. absurd (false≢true is);
        };
        counted = record {
          faults = omega (arith, so.counted.faults, ap fault_marks taken, count_snoc is_fault_mark items.taken (kinds.Chunk chunk));
          misused = so.counted.misused;
          ends = omega (arith, so.counted.ends, ap end_marks taken, count_snoc is_end_mark items.taken (kinds.Chunk chunk));
        };
        at_stage = running_stage items items' words words' marked false stage runs asked (omega (arith, ap marks taken, count_snoc is_mark items.taken (kinds.Chunk chunk))) so.at_stage;
      }

  -- a read took a mark
  takes_mark : (items items' : PassView RingItem) (words words' : PassView Word) (held : List ℕ) (marked ended ended' : Bool) (counts counts' : PortCounts) (stage : ReaderStage S) (mark : RingItem) →
      item_bytes mark ≡ [] → is_mark mark ≡ true → (ended' ≡ true → is_end_mark mark ≡ true) → counts.faults ≤ counts'.faults → counts'.faults ≤ counts.faults + fault_marks (mark ∷ []) → counts'.ends ≤ counts.ends + end_marks (mark ∷ [])
      → Reading items words held marked ended counts stage → held ≡ [] → is_running stage ≡ true → words'.sends ≡ true → asks words'.sent ≡ asks words.sent + marks_sent marked → items' ≡ view_of items.sends items.takes items.sent (items.taken ++ mark ∷ []) → Reading items' words' held true ended' counts' stage
  takes_mark items items' words words' held marked ended ended' counts counts' stage mark none a_mark an_end no_fewer more_faults more_ends so nothing runs sends asked is =
      let taken : items'.taken ≡ items.taken ++ mark ∷ [] = ap (λ (v : PassView RingItem). v.taken) is in
      record {
        taking = record {
          takes = ap (λ (v : PassView RingItem). v.takes) is ∙ so.taking.takes;
          sends = sends;
          rest = (bytes_of items'.taken, sym (ap (λ r. bytes_of items'.taken ++ r) nothing ∙ append-nil (bytes_of items'.taken)));
          at_mark = λ _. (nothing, ap (last_is is_mark) taken ∙ last_snoc is_mark items.taken mark ∙ a_mark);
          at_end = λ ended. (refl, ap (last_is is_end_mark) taken ∙ last_snoc is_end_mark items.taken mark ∙ an_end ended);
        };
        counted = record {
          faults = omega (arith, so.counted.faults, more_faults, ap fault_marks taken, count_snoc is_fault_mark items.taken mark);
          misused = omega (arith, so.counted.misused, no_fewer);
          ends = omega (arith, so.counted.ends, more_ends, ap end_marks taken, count_snoc is_end_mark items.taken mark);
        };
        at_stage = running_stage items items' words words' marked true stage runs asked (omega (arith, ap marks taken, count_snoc is_mark items.taken mark, one_counted mark a_mark)) so.at_stage;
      }

  pub takes_end : (items items' : PassView RingItem) (words words' : PassView Word) (held : List ℕ) (marked ended : Bool) (counts counts' : PortCounts) (stage : ReaderStage S) (told : ℕ) →
      counts'.faults ≡ counts.faults → counts'.ends ≡ min (counts.ends + 1) (2 ^ 64 - 1)
      → Reading items words held marked ended counts stage → held ≡ [] → is_running stage ≡ true → words'.sends ≡ true → asks words'.sent ≡ asks words.sent + marks_sent marked → items' ≡ view_of items.sends items.takes items.sent (items.taken ++ kinds.End told ∷ []) → Reading items' words' held true true counts' stage
  takes_end items items' words words' held marked ended counts counts' stage told more_faults more_ends = takes_mark items items' words words' held marked ended true counts counts' stage (kinds.End told) refl refl (λ _. refl) (omega (arith, more_faults)) (omega (arith, more_faults)) (omega (arith, more_ends))

  pub takes_fault : (items items' : PassView RingItem) (words words' : PassView Word) (held : List ℕ) (marked ended : Bool) (counts counts' : PortCounts) (stage : ReaderStage S) (told : ℕ) →
      counts.faults ≤ counts'.faults → counts'.faults ≡ min (counts.faults + 1) (2 ^ 64 - 1) → counts'.ends ≡ counts.ends
      → Reading items words held marked ended counts stage → held ≡ [] → is_running stage ≡ true → words'.sends ≡ true → asks words'.sent ≡ asks words.sent + marks_sent marked → items' ≡ view_of items.sends items.takes items.sent (items.taken ++ kinds.Fault told ∷ []) → Reading items' words' held true false counts' stage
  takes_fault items items' words words' held marked ended counts counts' stage told no_fewer more_faults more_ends = takes_mark items items' words words' held marked ended false counts counts' stage (kinds.Fault told) refl refl (λ is. absurd (false≢true is)) no_fewer (omega (arith, more_faults)) (omega (arith, more_ends))

-- what the answers hand out
pub gives_of_held : (taken : List RingItem) (held into : List ℕ) (n : ℕ) → (front : List ℕ) × (bytes_of taken ≡ front ++ held) → take n into ≡ take n held → 1 ≤ n → n ≤ length into → Gives (Some (given taken held)) (Some (given taken (drop n held))) into (reads.Bytes n)
gives_of_held taken held into n rest same some fits =
    let all : bytes_of taken ≡ (rest.0 ++ take n held) ++ drop n held = rest.1 ∙ ap (λ r. rest.0 ++ r) (sym (take-append-drop n held)) ∙ sym (append_assoc rest.0 (take n held) (drop n held)) in
    (some, fits, ap Some (given_front (bytes_of taken) (rest.0 ++ take n held) (drop n held) all ∙ λ i. sym (given_front (bytes_of taken) rest.0 held rest.1) i ++ sym same i))

pub gives_of_chunk : (taken taken' : List RingItem) (held chunk into : List ℕ) (n : ℕ) → held ≡ [] → taken' ≡ taken ++ kinds.Chunk chunk ∷ [] → take n into ≡ take n chunk → 1 ≤ n → n ≤ length into → Gives (Some (given taken held)) (Some (given taken' (drop n chunk))) into (reads.Bytes n)
gives_of_chunk taken taken' held chunk into n nothing is same some fits =
    let all : bytes_of taken' ≡ (bytes_of taken ++ take n chunk) ++ drop n chunk = ap bytes_of is ∙ bytes_snoc taken (kinds.Chunk chunk) ∙ ap (λ r. bytes_of taken ++ r) (sym (take-append-drop n chunk)) ∙ sym (append_assoc (bytes_of taken) (take n chunk) (drop n chunk)) in
    let before : given taken held ≡ bytes_of taken = given_front (bytes_of taken) (bytes_of taken) held (sym (ap (λ r. bytes_of taken ++ r) nothing ∙ append-nil (bytes_of taken))) in
    (some, fits, ap Some (given_front (bytes_of taken') (bytes_of taken ++ take n chunk) (drop n chunk) all ∙ λ i. sym before i ++ sym same i))

-- a mark gives nothing
pub given_mark : (taken taken' : List RingItem) (held : List ℕ) (mark : RingItem) → item_bytes mark ≡ [] → taken' ≡ taken ++ mark ∷ [] → given taken' held ≡ given taken held
given_mark taken taken' held mark none is =
    let same : bytes_of taken' ≡ bytes_of taken = ap bytes_of is ∙ bytes_snoc taken mark ∙ ap (λ r. bytes_of taken ++ r) none ∙ append-nil (bytes_of taken) in
    λ i. take (length (same i) - length held) (same i)

pub step_of_held : (held : List ℕ) (old new : ReaderState) (into : List ℕ) (n : ℕ) → held ≢ [] → new.taken ≡ old.taken → take n into ≡ take n held → new.held ≡ drop n held → GivesStep held old new into n
step_of_held [] old new into n some taken same rest = absurd (some refl)
step_of_held (b ∷ bs) old new into n some taken same rest = (taken, same, rest)

pub step_of_chunk : (held chunk : List ℕ) (old new : ReaderState) (into : List ℕ) (n : ℕ) → held ≡ [] → new.taken ≡ old.taken ++ kinds.Chunk chunk ∷ [] → take n into ≡ take n chunk → new.held ≡ drop n chunk → GivesStep held old new into n
step_of_chunk held chunk old new into n nothing taken same rest = rw nothing (chunk, taken, same, rest)

pub feeds_of : (l0 l : Option (List ℕ)) (f0 f e0 e : ℕ) (sent taken : List RingItem) → sent ≡ taken → Feeds l0 l f0 f e0 e sent → Feeds l0 l f0 f e0 e taken
feeds_of l0 l f0 f e0 e sent taken is so = subst (λ s. Feeds l0 l f0 f e0 e s) is so

-- a read of something that isn't empty gives at least one byte
pub gave_some : (held old new : List ℕ) (n : ℕ) → held ≢ [] → n ≡ min (length held) (length old) → 0 < length old → length new ≡ length old → (1 ≤ n) × (n ≤ length new)
gave_some [] old new n some is room same = absurd (some refl)
gave_some (b ∷ bs) old new n some is room same = (omega (arith, is, room), omega (arith, is, same))

abbrev unsome : Option (List ℕ) → List ℕ
unsome None = []
unsome (Some bytes) = bytes

gone_is : (before now : Option (List ℕ)) (bytes : List ℕ) → Loses before now bytes → IfSome (gone before now) (λ gave. gave ≡ bytes)
gone_is None now bytes so = tt
gone_is (Some all) None bytes so = tt
gone_is (Some all) (Some rest) bytes so = given_front all bytes rest (ap unsome so)

-- what a joined reader knows of its source
pub behind_joined : (taken : List RingItem) (held : List ℕ) (l0 l : Option (List ℕ)) (f0 f e0 e : ℕ) (ended : Bool) (faults : Option ℕ) → held ≡ [] → Feeds l0 l f0 f e0 e taken → (ended ≡ true → IfSome l (λ rest. rest ≡ [])) → Behind (Some (given taken held)) None (gone l0 l) None l faults ended
behind_joined taken held l0 l f0 f e0 e ended faults nothing so spent =
    let all : given taken held ≡ bytes_of taken = given_front (bytes_of taken) (bytes_of taken) held (sym (ap (λ r. bytes_of taken ++ r) nothing ∙ append-nil (bytes_of taken))) in
    record { given = subst (λ bytes. IfSome (gone l0 l) (λ gave. gave ≡ bytes)) (sym all) (gone_is l0 l (bytes_of taken) so.gave); taken = tt; whole = λ _. tt; spent = spent }

-- where nothing is held, what was given is what was taken
pub loses_given : (taken : List RingItem) (held : List ℕ) (l0 l : Option (List ℕ)) → held ≡ [] → Loses l0 l (bytes_of taken) → Loses l0 l (given taken held)
loses_given taken held l0 l nothing loses =
    let all : given taken held ≡ bytes_of taken = given_front (bytes_of taken) (bytes_of taken) held (sym (ap (λ r. bytes_of taken ++ r) nothing ∙ append-nil (bytes_of taken))) in
    subst (λ bytes. Loses l0 l bytes) (sym all) loses

pub tells_over : {S : Type 0} (left : S → Option (List ℕ)) (faults ends : S → ℕ) (lines : Lines Word) (start : S) (items : PassView RingItem) (words : PassView Word) (held : List ℕ) (marked : Bool) (stage : ReaderStage S) → is_running stage ≡ false → held ≡ [] → AtStage left faults ends lines start items words marked stage → is_begun stage ≡ true
    → (source : SourceBehind) × (behind_of left faults ends start items.taken stage ≡ Some source) × Loses (left start) source.left (given items.taken held)
tells_over left faults ends lines start items words held marked (stages.Waiting task) idle nothing at begun = absurd (false≢true begun)
tells_over left faults ends lines start items words held marked stages.Refused idle nothing at begun = absurd (false≢true begun)
tells_over left faults ends lines start items words held marked (stages.Running task) idle nothing at begun = absurd (false≢true (sym idle))
tells_over left faults ends lines start items words held marked (stages.Over source) idle nothing at begun = (source_behind left faults ends start source items.taken, refl, loses_given items.taken held (left start) (left source) nothing at.0.gave)
