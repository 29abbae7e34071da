-- What a call leaves of what a writer serves.
use Rattle.std.proofs.Common.{◌≡◌, ℕ, Bool, true, false, not, List, [], ◌∷◌, ◌++◌, refl, sym, ap, ◌∙◌, arith}
use Rattle.std.specs.Prelude.{◌&&◌}
use Rattle.std.proofs.lemmas.Bool.{false≢true}
use Rattle.port_trait.specs.Serving.{IsCalled}
use Rattle.ring_queue.specs.declared.items.RingItem.TheVariants as items
use Rattle.ring_queue.specs.Items.{is_end_mark, last_is}
use Rattle.ring_queue.proofs.ItemLists.{last_snoc}
use Rattle.ring_writer.specs.WriterRing.{WriterLine, is_open, is_shut}

unshut : (begun shut : Bool) → begun && not shut ≡ true → shut ≡ false
unshut true true e = absurd (false≢true e)
unshut true false e = refl
unshut false shut e = absurd (false≢true e)

-- a chunk that is put while the writer is open leaves all of it
pub called_chunk : (old new : WriterLine) (misuses misuses' : ℕ) (chunk : List ℕ) → is_open old ≡ true → new.sent ≡ old.sent ++ items.Chunk chunk ∷ [] → misuses' ≡ misuses
    → IsCalled (is_open old) (record { reads = false; writes = not (is_shut old); misuses = misuses }) (record { reads = false; writes = not (is_shut new); misuses = misuses' })
called_chunk old new misuses misuses' chunk opened sent same = record {
  reads = refl;
  writes = ap not (ap (last_is is_end_mark) sent ∙ last_snoc is_end_mark old.sent (items.Chunk chunk) ∙ sym (unshut old.begun (last_is is_end_mark old.sent) opened));
  once = omega (arith, same);
  served = λ _. same;
}
