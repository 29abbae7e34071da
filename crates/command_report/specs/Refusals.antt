-- What a report on refused words tells: the line that the program says, the word that is blamed with carets under what is
-- wrong, and why.
use Rattle.std.specs.Prelude.{◌≡◌, ℕ, ◌-◌, ◌==◌, min, List, [], ◌∷◌, ◌++◌, length, take, drop, Option, Some, None, slice_get, if◌then◌else◌}
use Rattle.relay_model.specs.{Refused, Refusal, newline}
use Rattle.relay_model.specs.declared.refusals.Refusal.TheVariants as refusal
use Rattle.exit_status.specs.declared.outcomes.Outcome.TheVariants as outcome
use Rattle.exit_status.specs.{line}
use Rattle.place_report.specs.{shown, said, marked}

-- where in its word a refusal points to; those that name no byte point to the whole word
abbrev pub offset_of : Refusal → ℕ
offset_of (refusal.Unclosed at) = at
offset_of (refusal.LoneBackslash at) = at
offset_of (refusal.TooManyDuals at) = at
offset_of (refusal.EmptyOption at) = at
offset_of other = 0

-- carets under bytes as they are shown; one where no byte is left
abbrev pub carets : List ℕ → List ℕ
carets [] = 94 ∷ []
carets (byte ∷ bytes) = marked 94 (byte ∷ bytes)

-- a word, and below it carets from this byte on
abbrev pub underlined : ℕ → List ℕ → List ℕ
underlined from word =
    said "  " ++ shown word ++ newline ++ said "  " ++ marked 32 (take from word) ++ carets (drop from word) ++ newline

-- the word that a refusal blames, if it blames one that there is; words count from 1
abbrev pub blamed : List (List ℕ) → ℕ → Option (List ℕ)
blamed words place = if place == 0 then None else slice_get words (place - 1)

-- the word, underlined; nothing where none is blamed
abbrev pub word_told : Refusal → Option (List ℕ) → List ℕ
word_told why None = []
word_told why (Some word) = underlined (min (offset_of why) (length word)) word

-- the line that the program says of the refusal, the word, and why
pub record RefusalTold (words : List (List ℕ)) (refused : Refused) (text : List ℕ) : Type 0 where
  pub reason : List ℕ
  pub told : text ≡ line (outcome.Refused refused) ++ word_told refused.why (blamed words refused.word) ++ reason ++ newline
