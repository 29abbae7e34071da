-- What a writer of std holds while a text is written to it piece by piece.
use Rattle.std.proofs.Common.{◌≡◌, ℕ, List, [], ◌++◌, take, drop, sym, ap, ◌∙◌, append-nil, take-append-drop}
use Rattle.std.specs.Prelude.{Option, None, Some}
use Rattle.std.specs.Io.KnownBytes.{Keeps, Appends, append_known}
use Rattle.std.proofs.KnownBytes.{append_known-moved, Keeps-trans}

-- a front of the rest was written: what is held and what is left to write are the whole text still
pub held_more : (before mid now : Option (List ℕ)) (text rest : List ℕ) (n : ℕ) → Keeps (append_known before text) (append_known mid rest) → Appends mid now (take n rest) → Keeps (append_known before text) (append_known now (drop n rest))
held_more before mid now text rest n so more = Keeps-trans _ _ _ so (append_known-moved mid now (take n rest) (drop n rest) rest more (sym (take-append-drop n rest)))

-- nothing is left to write: the text is held
pub held_all : (before mid now : Option (List ℕ)) (text rest : List ℕ) → Keeps (append_known before text) (append_known mid rest) → rest ≡ [] → Keeps mid now → Appends before now text
held_all None mid now text rest so none kept = tt
held_all (Some x) None now text rest so none kept = absurd so
held_all (Some x) (Some y) None text rest so none kept = absurd kept
held_all (Some x) (Some y) (Some z) text rest so none kept = kept ∙ sym (append-nil y) ∙ ap (λ l. y ++ l) (sym none) ∙ so
