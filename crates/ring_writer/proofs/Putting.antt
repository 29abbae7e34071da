-- What a chunk or an end mark adds to what a writer's port put.
use Rattle.std.proofs.Common.{◌≡◌, ℕ, ◌+◌, ◌-◌, ◌^◌, ◌≤◌, min, true, false, List, [], ◌∷◌, ◌++◌, length, length-append, take, drop, refl, sym, ap, ◌∙◌, arith}
use Rattle.std.proofs.lemmas.List.{append-nil, length-take}
use Rattle.ring_queue.specs.declared.items.RingItem.{RingItem}
use Rattle.ring_queue.specs.declared.items.RingItem.TheVariants as items
use Rattle.ring_queue.specs.Items.{bytes_of, is_mark, is_end_mark, last_is, marks, told, AddsChunks}
use Rattle.ring_queue.proofs.ItemLists.{bytes_snoc, last_snoc, count_snoc, chunk_more}

module _ (sent sent' : List RingItem) where
  pub chunk_told : (bytes : List ℕ) (count count' n : ℕ) → sent' ≡ sent ++ items.Chunk bytes ∷ [] → count ≡ told (bytes_of sent) → count' ≡ min (count + n) (2 ^ 64 - 1) → n ≡ length bytes → count' ≡ told (bytes_of sent')
  chunk_told bytes count count' n more was now is = let all : length (bytes_of sent') ≡ length (bytes_of sent) + length bytes = ap length (ap bytes_of more ∙ bytes_snoc sent (items.Chunk bytes)) ∙ length-append (bytes_of sent) bytes in omega (arith, all, was, now, is)

  pub chunk_marks : (bytes : List ℕ) → sent' ≡ sent ++ items.Chunk bytes ∷ [] → marks sent' ≡ marks sent
  chunk_marks bytes more = let all = ap marks more ∙ count_snoc is_mark sent (items.Chunk bytes) in omega (arith, all)

  pub chunk_last : (bytes : List ℕ) → sent' ≡ sent ++ items.Chunk bytes ∷ [] → last_is is_end_mark sent' ≡ false
  chunk_last bytes more = ap (last_is is_end_mark) more ∙ last_snoc is_end_mark sent (items.Chunk bytes)

  pub end_bytes : (count : ℕ) → sent' ≡ sent ++ items.End count ∷ [] → bytes_of sent' ≡ bytes_of sent
  end_bytes count more = ap bytes_of more ∙ bytes_snoc sent (items.End count) ∙ append-nil (bytes_of sent)

  pub end_marked : (count : ℕ) → sent' ≡ sent ++ items.End count ∷ [] → marks sent' ≡ marks sent + 1
  end_marked count more = ap marks more ∙ count_snoc is_mark sent (items.End count)

  pub end_last : (count : ℕ) → sent' ≡ sent ++ items.End count ∷ [] → last_is is_end_mark sent' ≡ true
  end_last count more = ap (last_is is_end_mark) more ∙ last_snoc is_end_mark sent (items.End count)

-- a front of the rest is a chunk more
pub front_more : (before sent now : List RingItem) (bytes rest : List ℕ) (at n : ℕ) → AddsChunks before sent (take at bytes) → n ≤ length rest → rest ≡ drop at bytes → now ≡ sent ++ items.Chunk (take n rest) ∷ [] → AddsChunks before now (take (at + n) bytes)
front_more before sent now bytes rest at n was within is more =
    let long : length (take n rest) ≡ n = simp length-take (omega arith) in
    let piece : take n rest ≡ take (length (take n rest)) (drop at bytes) = ap (take n) is ∙ ap (λ m. take m (drop at bytes)) (sym long) in
    rw long at (chunk_more before sent now bytes (take n rest) at was more piece)

-- nothing was put yet
pub none_put : (sent : List RingItem) → AddsChunks sent sent []
none_put sent = record { bytes = sym (append-nil (bytes_of sent)); no_marks = refl; no_ends = refl; no_faults = refl }
