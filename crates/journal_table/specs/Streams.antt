-- How a dump shows what was read at a place.
use Rattle.std.specs.Prelude.{◌≡◌, ℕ, ◌-◌, ◌^◌, min, List, [], ◌∷◌, ◌++◌, length, if◌then◌else◌}
use Rattle.relay_model.specs.{Place, Way, Dump, Act, same_place, dump_of, got}
use Rattle.relay_model.specs.declared.acts.Act.TheVariants.{Read}
use Rattle.journal_table.specs.declared.streams.Dumping.{Dumping}

-- the text, with a further piece of so many bytes behind it; a piece without bytes shows nothing
abbrev pub shown_piece : Dump → Way → ℕ → List ℕ → List ℕ → List ℕ
shown_piece style way from text [] = text
shown_piece style way from text (byte ∷ bytes) = text ++ dump_of style way from (byte ∷ bytes)

-- how a dump shows what was read at a place, piece by piece; the count of the bytes before a piece stops at the greatest
-- number
abbrev pub dumped : Dump → Way → List Act → Place → List ℕ
dumped style way [] p = []
dumped style way (Read q bytes ∷ past) p =
    if same_place q p then shown_piece style way (min (length (got past p)) (2 ^ 64 - 1)) (dumped style way past p) bytes
    else dumped style way past p
dumped style way (act ∷ past) p = dumped style way past p

-- so far the dump shows what was read at the place
pub record DumpedSoFar (style : Dump) (way : Way) (p : Place) (dumping : Dumping) (past : List Act) : Type 0 where
  pub text_is : dumping.text.items ≡ dumped style way past p
  pub from_is : dumping.from ≡ min (length (got past p)) (2 ^ 64 - 1)
