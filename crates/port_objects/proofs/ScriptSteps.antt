-- What a script has given, from one read to the next.
use Rattle.std.proofs.Common.{◌≡◌, ℕ, zero, suc, ◌+◌, ◌≤◌, List, [], ◌∷◌, ◌++◌, length, take, refl, sym, ap, ◌∙◌, append_assoc, add-one, arith}
use Rattle.std.specs.Prelude.{Some, slice_get}
use Rattle.std.proofs.lemmas.List.{append-nil}
use Rattle.port_trait.specs.declared.answers.Got.{Got}
use Rattle.port_trait.specs.declared.answers.Got.TheVariants as reads
use Rattle.port_trait.specs.Meanings.{Gives}
use Rattle.port_objects.specs.declared.scripts.PortItem.{PortItem}
use Rattle.port_objects.specs.declared.scripts.PortItem.TheVariants as items
use Rattle.port_objects.specs.Scripts.{IsFilled, AllFilled, IsWithin, FitsRead, item_bytes, given, got_bytes}

pub filled_push : (xs : List PortItem) (x : PortItem) → AllFilled xs → IsFilled x → AllFilled (xs ++ x ∷ [])
filled_push [] x all filled = (filled, tt)
filled_push (y ∷ ys) x all filled = (all.0, filled_push ys x all.1 filled)

-- of a filled item something is left at its start
filled_within : (x : PortItem) (at : ℕ) → at ≡ 0 → IsFilled x → IsWithin (Some x) at
filled_within (items.Bytes bytes) at start filled = omega arith
filled_within items.Empty at start filled = start
filled_within items.End at start filled = start
filled_within items.NotYet at start filled = start
filled_within items.Fault at start filled = start

pub within_push : (xs : List PortItem) (n at : ℕ) (x : PortItem) → n ≤ length xs → IsWithin (slice_get xs n) at → IsFilled x → IsWithin (slice_get (xs ++ x ∷ []) n) at
within_push [] zero at x le within filled = filled_within x at within filled
within_push [] (suc n) at x le within filled = absurd (omega arith)
within_push (y ∷ ys) zero at x le within filled = within
within_push (y ∷ ys) (suc n) at x le within filled = within_push ys n at x (omega arith) within filled

within_begin : (xs : List PortItem) (n : ℕ) → AllFilled xs → IsWithin (slice_get xs n) 0
within_begin [] n all = refl
within_begin (y ∷ ys) zero all = filled_within y 0 refl all.0
within_begin (y ∷ ys) (suc n) all = within_begin ys n all.1

pub within_start : (xs : List PortItem) (n : ℕ) → AllFilled xs → IsWithin (slice_get xs n) 0
within_start xs n all = within_begin xs n all

pub given_push : (xs : List PortItem) (n at : ℕ) (x : PortItem) → n ≤ length xs → IsWithin (slice_get xs n) at → given (xs ++ x ∷ []) n at ≡ given xs n at
given_push [] zero at x le within = ap (λ k. take k (item_bytes x)) within
given_push [] (suc n) at x le within = absurd (omega arith)
given_push (y ∷ ys) zero at x le within = refl
given_push (y ∷ ys) (suc n) at x le within = ap (λ rest. item_bytes y ++ rest) (given_push ys n at x (omega arith) within)

-- the read gave a part of the item
pub given_more : (xs : List PortItem) (n at after : ℕ) (x : PortItem) (bytes : List ℕ) → slice_get xs n ≡ Some x → take at (item_bytes x) ++ bytes ≡ take after (item_bytes x) → given xs n after ≡ given xs n at ++ bytes
given_more [] n at after x bytes found part = cc
given_more (y ∷ ys) zero at after x bytes found part = cc
given_more (y ∷ ys) (suc n) at after x bytes found part = ap (λ rest. item_bytes y ++ rest) (given_more ys n at after x bytes found part) ∙ sym (append_assoc (item_bytes y) (given ys n at) bytes)

given_none : (xs : List PortItem) → given xs 0 0 ≡ []
given_none [] = refl
given_none (x ∷ xs) = refl

given_last : (xs : List PortItem) (n at : ℕ) (x : PortItem) (bytes : List ℕ) → slice_get xs n ≡ Some x → take at (item_bytes x) ++ bytes ≡ item_bytes x → given xs (suc n) 0 ≡ given xs n at ++ bytes
given_last [] n at x bytes found part = cc
given_last (y ∷ ys) zero at x bytes found part = let e : item_bytes y ≡ take at (item_bytes y) ++ bytes = cc in ap (λ rest. item_bytes y ++ rest) (given_none ys) ∙ append-nil (item_bytes y) ∙ e
given_last (y ∷ ys) (suc n) at x bytes found part = ap (λ rest. item_bytes y ++ rest) (given_last ys n at x bytes found part) ∙ sym (append_assoc (item_bytes y) (given ys n at) bytes)

-- the read gave the last of the item
pub given_passed : (xs : List PortItem) (n at : ℕ) (x : PortItem) (bytes : List ℕ) → slice_get xs n ≡ Some x → take at (item_bytes x) ++ bytes ≡ item_bytes x → given xs (n + 1) 0 ≡ given xs n at ++ bytes
given_passed xs n at x bytes found part = rw add-one (given_last xs n at x bytes found part)

-- what was given grew by the answer's bytes
pub gives_from : (before now into : List ℕ) (got : Got) → FitsRead into got → now ≡ before ++ got_bytes into got → Gives (Some before) (Some now) into got
gives_from before now into (reads.Bytes n) fits grew = (fits.0, fits.1, ap Some grew)
gives_from before now into reads.Empty fits grew = ap Some (grew ∙ append-nil before)
gives_from before now into reads.End fits grew = ap Some (grew ∙ append-nil before)
gives_from before now into reads.NotYet fits grew = ap Some (grew ∙ append-nil before)
gives_from before now into reads.Failed fits grew = ap Some (grew ∙ append-nil before)
