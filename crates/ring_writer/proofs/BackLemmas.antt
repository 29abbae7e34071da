-- What a writer knows once its thread has come back.
use Rattle.std.proofs.Common.{◌≡◌, ℕ, zero, suc, ◌≤◌, Bool, true, false, List, [], ◌∷◌, ◌++◌, length, length-append, take, drop, refl, sym, ap, ◌∙◌, subst, arith}
use Rattle.std.specs.Prelude.{Option, None, Some, IfSome}
use Rattle.std.proofs.lemmas.List.{append-nil, take-append-drop, take-append-le, take-take, length-take}
use Rattle.std.proofs.lemmas.Option.{same_Some}
use Rattle.std.proofs.lemmas.Bool.{false≢true}
use Rattle.port_trait.specs.Meanings.{IsFront}
use Rattle.ring_queue.specs.declared.items.RingItem.{RingItem}
use Rattle.ring_queue.specs.declared.items.RingItem.TheVariants as items
use Rattle.ring_queue.specs.declared.words.SinkFault.{SinkFault}
use Rattle.ring_writer.specs.declared.writer_outlet.Outlet.{Outlet}
use Rattle.ring_queue.specs.Items.{bytes_of, is_mark, is_end_mark, last_is, marks}
use Rattle.ring_writer.specs.Writer.{Delivered, Delivers, KeepsUp}
use Rattle.ring_writer.specs.WriterThread.{IsTrueToSink}
use Rattle.crossbeam_queue.specs.Passes.{view}
use Rattle.ring_writer.specs.declared.writer_stages.WriterBack.{WriterBack}
use Rattle.ring_writer.specs.WriterRing.{gained, unless_failed, behind_of, GrewBy, IsBack, IsBehind}
use Rattle.ring_writer.proofs.Delivery.{kept_more}
use Rattle.ring_queue.proofs.ItemLists.{last_counted, drained}
use Rattle.ring_queue.proofs.Rises.{seen_in_rise}

-- a last end mark is a last mark
pub ends_with_mark : (xs : List RingItem) → last_is is_end_mark xs ≡ true → last_is is_mark xs ≡ true
ends_with_mark [] is = is
ends_with_mark (items.Chunk bytes ∷ []) is = is
ends_with_mark (items.End count ∷ []) is = refl
ends_with_mark (items.Fault count ∷ []) is = absurd (false≢true is)
ends_with_mark (x ∷ y ∷ rest) is = ends_with_mark (y ∷ rest) is

-- the thread took the one end mark that was put last, so it took all
pub all_taken : (sent taken rest : List RingItem) → sent ≡ taken ++ rest → marks sent ≡ 1 → last_is is_end_mark sent ≡ true → last_is is_end_mark taken ≡ true → sent ≡ taken
all_taken sent taken rest is one ends took =
    let few = last_counted is_mark taken (ends_with_mark taken took) in
    let none : rest ≡ [] = drained taken rest (ap (last_is is_mark) (sym is) ∙ ends_with_mark sent ends) (omega (arith, few, one, ap marks is)) in
    is ∙ ap (λ more. taken ++ more) none ∙ append-nil taken

-- behind what was there comes what was added
past : (before more : List ℕ) → drop (length before) (before ++ more) ≡ more
past [] more = refl
past (x ∷ before) more = past before more

gains_now : (before now added : List ℕ) → ◌≡◌ {A = Option (List ℕ)} (Some now) (Some (before ++ added)) → drop (length before) now ≡ added
gains_now before now added is = ap (drop (length before)) (same_Some now (before ++ added) is) ∙ past before added

-- the first few of the first more are the first few
take_shorter : (k n : ℕ) (bytes : List ℕ) → k ≤ n → take k (take n bytes) ≡ take k bytes
take_shorter k n bytes few = take-take k n bytes few

-- what it gained before its first fault is a front of the bytes
pub gains_front : (faults sound : ℕ) (before now : Option (List ℕ)) (bytes : List ℕ) → Delivered faults sound before now bytes → IfSome (unless_failed faults sound (gained before now)) (λ took. IsFront took bytes)
gains_front zero sound None now bytes is = tt
gains_front zero sound (Some before) None bytes is = tt
gains_front zero sound (Some before) (Some now) bytes is = ([], sym (append-nil (drop (length before) now) ∙ gains_now before now bytes is.1))
gains_front (suc faults) sound None now bytes is = tt
gains_front (suc faults) sound (Some before) None bytes is = tt
gains_front (suc faults) sound (Some before) (Some now) bytes is =
    let gains = gains_now before now (take is.0 bytes ++ is.1) is.4 in
    let few : sound ≤ is.0 = omega (arith, is.3) in
    let front : take sound (drop (length before) now) ≡ take sound bytes = ap (take sound) gains ∙ take-append-le sound (take is.0 bytes) is.1 (simp length-take (omega (arith, is.2, few))) ∙ take_shorter sound is.0 bytes few in
    (drop sound bytes, sym (ap (λ xs. xs ++ drop sound bytes) front ∙ take-append-drop sound bytes))

-- and all of them where it never failed
pub gains_all : (sound : ℕ) (before now : Option (List ℕ)) (bytes : List ℕ) → Delivered 0 sound before now bytes → IfSome (gained before now) (λ took. took ≡ bytes)
gains_all sound None now bytes is = tt
gains_all sound (Some before) None bytes is = tt
gains_all sound (Some before) (Some now) bytes is = gains_now before now bytes is.1

pub whole_if_sound : (faults sound : ℕ) (before now : Option (List ℕ)) (bytes : List ℕ) → faults ≡ 0 → Delivered faults sound before now bytes → IfSome (unless_failed faults sound (gained before now)) (λ took. took ≡ bytes)
whole_if_sound zero sound before now bytes none is = gains_all sound before now bytes is
whole_if_sound (suc faults) sound before now bytes none is = absurd (omega arith)

-- it has what it had, then that front, and more only after a fault
pub grows_by : (faults sound : ℕ) (before now : Option (List ℕ)) (bytes : List ℕ) (known : ℕ) → (known ≡ 0 → faults ≡ 0) → Delivered faults sound before now bytes → IfSome (unless_failed faults sound (gained before now)) (GrewBy before now known)
grows_by zero sound None now bytes known few is = tt
grows_by zero sound (Some before) None bytes known few is = tt
grows_by zero sound (Some before) (Some now) bytes known few is = ([], λ _. refl, is.1 ∙ ap (λ (more : List ℕ). Some (before ++ more)) (sym (append-nil (drop (length before) now) ∙ gains_now before now bytes is.1)))
grows_by (suc faults) sound None now bytes known few is = tt
grows_by (suc faults) sound (Some before) None bytes known few is = tt
grows_by (suc faults) sound (Some before) (Some now) bytes known few is =
    let more = drop (length before) now in
    let gains = gains_now before now (take is.0 bytes ++ is.1) is.4 in
    (drop sound more, λ none. absurd (omega (arith, few none)), is.4 ∙ ap (λ (added : List ℕ). Some (before ++ added)) (sym (take-append-drop sound more ∙ gains)))

-- what was heard of the marks is no more than was told
pub hears_less : {K : Type 0} (took : K → Option (List ℕ)) (faults : K → ℕ) (before : Option (List ℕ)) (faults_before : ℕ) (outlet : Outlet K) (taken taken' : List RingItem) (told heard heard' rest : List SinkFault) → taken' ≡ taken → told ≡ heard ++ rest → heard' ≡ heard → IsTrueToSink took faults before faults_before outlet taken told → IsTrueToSink took faults before faults_before outlet taken' heard'
hears_less took faults before faults_before outlet taken taken' told heard heard' rest same all is was = record {
  delivered = subst (λ (xs : List RingItem). Delivers took before outlet (bytes_of xs)) (sym same) was.delivered;
  kept_up = subst (λ (xs : List RingItem). KeepsUp took before outlet 0 (bytes_of xs)) (sym same) was.kept_up;
  told_less = omega (arith, was.told_less, ap length all, length-append heard rest, ap length is);
  rose = was.rose;
}

-- what a joined writer shows of its line
pub is_behind : {K : Type 0} (took : K → Option (List ℕ)) (faults : K → ℕ) (finished : K → Bool) (back : WriterBack K) → IsBack took faults finished back → IsBehind (record { had = took back.begun.value; sent = (view back.items).sent; marks = length (view back.marks).taken; begun = true; refused = false; behind = Some (behind_of took faults finished back) }) (behind_of took faults finished back)
is_behind took faults finished back is =
    let all = is.all in
    let seen = seen_in_rise (faults back.begun.value) (faults back.outlet.sink) back.outlet.faults is.true_to_sink.rose in
    let given = subst (λ (xs : List RingItem). Delivers took (took back.begun.value) back.outlet (bytes_of xs)) (sym all) is.true_to_sink.delivered in record {
      all = sym all;
      ended = is.ended;
      front = gains_front back.outlet.faults back.outlet.sound (took back.begun.value) (took back.outlet.sink) (bytes_of (view back.items).sent) given;
      whole = λ none. whole_if_sound back.outlet.faults back.outlet.sound (took back.begun.value) (took back.outlet.sink) (bytes_of (view back.items).sent) (omega (arith, none, seen)) given;
      grew = grows_by back.outlet.faults back.outlet.sound (took back.begun.value) (took back.outlet.sink) (bytes_of (view back.items).sent) (behind_of took faults finished back).faults (λ none. omega (arith, none, seen)) given;
      told = omega (arith, is.true_to_sink.told_less, seen);
      kept_up = kept_more back.outlet.faults (behind_of took faults finished back).faults (took back.begun.value) (took back.outlet.sink) (bytes_of (view back.items).sent) seen (subst (λ (xs : List RingItem). KeepsUp took (took back.begun.value) back.outlet 0 (bytes_of xs)) (sym all) is.true_to_sink.kept_up);
      finished = λ none. is.over (omega (arith, none, seen));
    }
