-- Where borders are kept, at most one piece waits to be written.
use Rattle.std.specs.Prelude.{◌≡◌, ℕ, true, List, [], ◌∷◌, ◌++◌, length, drop}
use Rattle.relay_model.specs.{Way, Config, Act, Place, same_place, joined, input, output, keeps_borders, got, put, sent, due, due_pieces, Legal}
use Rattle.relay_model.specs.declared.acts.Act.TheVariants.{Read}

-- the bytes as one piece, where there are some
abbrev pub at_most_one : List ℕ → List (List ℕ)
at_most_one [] = []
at_most_one (b ∷ bs) = (b ∷ bs) ∷ []

-- the pieces due are those that were written, and after them all that is due and not yet written, as one piece
abbrev pub PacketsAreDue : Type 0
PacketsAreDue =
    (c : Config) (n : ℕ) (past : List Act) (s : ℕ) (w : Way) → Legal c n past → keeps_borders c w ≡ true →
    due_pieces c past s w ≡ sent past (output c s w) ++ at_most_one (drop (length (put past (output c s w))) (due c w (got past (input c s w))))

-- the pieces that were read at the place, in order
abbrev pub pieces : List Act → Place → List (List ℕ)
pieces [] p = []
pieces (Read q bytes ∷ past) p = joined (same_place q p) (pieces past p) (bytes ∷ [])
pieces (act ∷ past) p = pieces past p

-- where a direction owes just what it reads, each packet that was written is one that was read, whole and in order, and
-- one at most waits
abbrev pub PacketsKeepBorders : Type 0
PacketsKeepBorders =
    (c : Config) (n : ℕ) (past : List Act) (s : ℕ) (w : Way) → Legal c n past → keeps_borders c w ≡ true → ((bytes : List ℕ) → due c w bytes ≡ bytes) →
    pieces past (input c s w) ≡ sent past (output c s w) ++ at_most_one (drop (length (put past (output c s w))) (got past (input c s w)))
