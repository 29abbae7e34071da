-- What one more item adds to those that a writer's thread took.
use Rattle.std.proofs.Common.{◌≡◌, ℕ, ◌+◌, ◌*◌, ◌≤◌, Bool, true, List, [], ◌∷◌, ◌++◌, length, length-append, sym, ap, ◌∙◌, append_assoc, arith}
use Rattle.ring_queue.specs.declared.items.RingItem.{RingItem}
use Rattle.ring_queue.specs.declared.items.RingItem.TheVariants as items
use Rattle.ring_queue.specs.Items.{item_bytes, bytes_of, last_is, Follows}
use Rattle.ring_queue.proofs.ItemLists.{bytes_snoc, last_snoc}

-- what is gathered goes on with the bytes of the item
pub gathers_on : (start xs : List RingItem) (x : RingItem) (held gathered gathered' : List ℕ) (taken' : List RingItem) → taken' ≡ xs ++ x ∷ [] → gathered' ≡ gathered ++ item_bytes x
    → ((before : List ℕ) → bytes_of start ≡ before ++ held → bytes_of xs ≡ before ++ gathered) → (before : List ℕ) → bytes_of start ≡ before ++ held → bytes_of taken' ≡ before ++ gathered'
gathers_on start xs x held gathered gathered' taken' more grown sofar before is =
    ap bytes_of more ∙ bytes_snoc xs x ∙ ap (λ front. front ++ item_bytes x) (sofar before is) ∙ append_assoc before gathered (item_bytes x) ∙ ap (λ rest. before ++ rest) (sym grown)

-- no item has more than 512 bytes
item_short : (before : List RingItem) (x : RingItem) → Follows before x → length (item_bytes x) ≤ 512
item_short before (items.Chunk bytes) follows = follows.1
item_short before (items.End count) follows = omega arith
item_short before (items.Fault count) follows = omega arith

-- what is dropped is taken all the same
pub drops_on : (start xs : List RingItem) (x : RingItem) (taken' : List RingItem) (i : ℕ) → taken' ≡ xs ++ x ∷ [] → Follows xs x → (more : List ℕ) × (bytes_of xs ≡ bytes_of start ++ more) × (length more ≤ 512 * i) → (more : List ℕ) × (bytes_of taken' ≡ bytes_of start ++ more) × (length more ≤ 512 * (i + 1))
drops_on start xs x taken' i more follows sofar = (
  sofar.0 ++ item_bytes x,
  ap bytes_of more ∙ bytes_snoc xs x ∙ ap (λ front. front ++ item_bytes x) sofar.1 ∙ append_assoc (bytes_of start) sofar.0 (item_bytes x),
  omega (arith, length-append sofar.0 (item_bytes x), item_short xs x follows, sofar.2),
)

-- 64 items have no more than so many bytes
pub few_dropped : (start now : List RingItem) (i : ℕ) → i ≤ 64 → (more : List ℕ) × (bytes_of now ≡ bytes_of start ++ more) × (length more ≤ 512 * i) → (more : List ℕ) × (bytes_of now ≡ bytes_of start ++ more) × (length more ≤ 32768)
few_dropped start now i few sofar = (sofar.0, sofar.1, omega (arith, few, sofar.2))

-- the last that was taken
pub last_taken : (kind : RingItem → Bool) (xs : List RingItem) (x : RingItem) (taken' : List RingItem) → taken' ≡ xs ++ x ∷ [] → true ≡ kind x → last_is kind taken' ≡ true
last_taken kind xs x taken' more is = ap (last_is kind) more ∙ last_snoc kind xs x ∙ sym is

-- the first item that is gathered
pub gathers_first : (xs : List RingItem) (x : RingItem) (taken' : List RingItem) (cleared gathered : List ℕ) → taken' ≡ xs ++ x ∷ [] → cleared ≡ [] → gathered ≡ cleared ++ item_bytes x → bytes_of taken' ≡ bytes_of xs ++ gathered
gathers_first xs x taken' cleared gathered more empty grown = ap bytes_of more ∙ bytes_snoc xs x ∙ ap (λ rest. bytes_of xs ++ rest) (sym (grown ∙ ap (λ front. front ++ item_bytes x) empty))
