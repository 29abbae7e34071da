-- Lists of items: their bytes, their marks and the last of them.
use Rattle.std.proofs.Common.{◌≡◌, ℕ, cond, ◌+◌, ◌≤◌, Bool, true, List, [], ◌∷◌, ◌++◌, length, take, drop, refl, sym, ap, ◌∙◌, append_assoc, take-add, arith}
use Rattle.std.specs.List.{count_by}
use Rattle.std.proofs.lemmas.List.{append-nil}
use Rattle.std.proofs.lemmas.List.Sums.{sum_by-append}
use Rattle.std.proofs.lemmas.Bool.{false≢true}
use Rattle.ring_queue.specs.declared.items.RingItem.{RingItem}
use Rattle.ring_queue.specs.declared.items.RingItem.TheVariants as items
use Rattle.ring_queue.specs.Items.{item_bytes, bytes_of, last_is, marks, is_mark, is_end_mark, is_fault_mark, AddsChunks}

pub bytes_append : (xs ys : List RingItem) → bytes_of (xs ++ ys) ≡ bytes_of xs ++ bytes_of ys
bytes_append [] ys = refl
bytes_append (x ∷ xs) ys = ap (λ bytes. item_bytes x ++ bytes) (bytes_append xs ys) ∙ sym (append_assoc (item_bytes x) (bytes_of xs) (bytes_of ys))

pub bytes_snoc : (xs : List RingItem) (x : RingItem) → bytes_of (xs ++ x ∷ []) ≡ bytes_of xs ++ item_bytes x
bytes_snoc xs x = bytes_append xs (x ∷ []) ∙ ap (λ bytes. bytes_of xs ++ bytes) (append-nil (item_bytes x))

module _ {T : Type 0} where
  pub count_append : (kind : T → Bool) (xs ys : List T) → count_by kind (xs ++ ys) ≡ count_by kind xs + count_by kind ys
  count_append kind xs ys = sum_by-append (λ x. cond (kind x) 1 0) xs ys

  pub count_snoc : (kind : T → Bool) (xs : List T) (x : T) → count_by kind (xs ++ x ∷ []) ≡ count_by kind xs + count_by kind (x ∷ [])
  count_snoc kind xs x = count_append kind xs (x ∷ [])

pub one_counted : (mark : RingItem) → is_mark mark ≡ true → marks (mark ∷ []) ≡ 1
one_counted mark is = rw is refl

pub last_append : (kind : RingItem → Bool) (xs : List RingItem) (y : RingItem) (ys : List RingItem) → last_is kind (xs ++ y ∷ ys) ≡ last_is kind (y ∷ ys)
last_append kind [] y ys = refl
last_append kind (x ∷ []) y ys = refl
last_append kind (x ∷ next ∷ xs) y ys = last_append kind (next ∷ xs) y ys

pub last_snoc : (kind : RingItem → Bool) (xs : List RingItem) (x : RingItem) → last_is kind (xs ++ x ∷ []) ≡ kind x
last_snoc kind xs x = last_append kind xs x []

pub last_counted : (kind : RingItem → Bool) (xs : List RingItem) → last_is kind xs ≡ true → 1 ≤ count_by kind xs
last_counted kind [] is = absurd (false≢true is)
last_counted kind (x ∷ []) is = rw is (omega arith)
last_counted kind (x ∷ next ∷ xs) is = omega (arith, last_counted kind (next ∷ xs) is, count_append kind (x ∷ []) (next ∷ xs))

-- where all ends with a mark and has no more marks than its front, it is that front
pub drained : (front rest : List RingItem) → last_is is_mark (front ++ rest) ≡ true → marks (front ++ rest) ≤ marks front → rest ≡ []
drained front [] ends few = refl
drained front (x ∷ xs) ends few = let one = last_counted is_mark (x ∷ xs) (sym (last_append is_mark front x xs) ∙ ends) in let all = count_append is_mark front (x ∷ xs) in absurd (omega (arith, one, all, few))

-- one chunk more
pub chunk_more : (before sent now : List RingItem) (bytes piece : List ℕ) (at : ℕ) → AddsChunks before sent (take at bytes) → now ≡ sent ++ items.Chunk piece ∷ [] → piece ≡ take (length piece) (drop at bytes) → AddsChunks before now (take (at + length piece) bytes)
chunk_more before sent now bytes piece at so is cut = rw is (record {
  bytes = bytes_snoc sent (items.Chunk piece) ∙ ap (λ all. all ++ piece) so.bytes ∙ append_assoc (bytes_of before) (take at bytes) piece ∙ ap (λ more. bytes_of before ++ more) (ap (λ more. take at bytes ++ more) cut ∙ sym (take-add at (length piece) bytes));
  no_marks = omega (arith, count_snoc is_mark sent (items.Chunk piece), so.no_marks);
  no_ends = omega (arith, count_snoc is_end_mark sent (items.Chunk piece), so.no_ends);
  no_faults = omega (arith, count_snoc is_fault_mark sent (items.Chunk piece), so.no_faults);
})
