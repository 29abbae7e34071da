-- A run whose history may be written to a file.
use Rattle.std.specs.Prelude.{◌≡◌, ◌⊎◌, ℕ, zero, suc, Bool, true, false, List, [], ◌∷◌, ◌++◌, Option, Some, option_map, codes, drop, length, nat_eq, if◌then◌else◌}
use Rattle.std.specs.List.{starts_with}
use Rattle.relay_model.specs.{Act}
use Rattle.relay_model.specs.declared.acts.Act.TheVariants.{Note, NoteFault}
use Rattle.relay_model.specs.Journals.{History}
use Rattle.journal_text.specs.{IsTextOf}
use Rattle.socat_top.specs.declared.written.Saving.{Saving}
use Rattle.socat_top.specs.declared.written.Saving.TheVariants as savings

-- whether a word asks for a written journal
abbrev pub is_flag : List ℕ → Bool
is_flag word = starts_with nat_eq word (codes "--journal=")

-- only the first word can ask for one
abbrev pub asks_for_journal : List (List ℕ) → Bool
asks_for_journal [] = false
asks_for_journal (word ∷ words) = is_flag word

-- the words of the run, counted from behind the flag
abbrev pub words_of_run : List (List ℕ) → List (List ℕ)
words_of_run [] = []
words_of_run (word ∷ words) = if is_flag word then words else word ∷ words

-- the name of the journal's file: what follows the flag in the first word
abbrev pub journal_name : List (List ℕ) → List ℕ
journal_name [] = []
journal_name (word ∷ words) = drop (length (codes "--journal=")) word

-- the file of this name was asked for once: it was made; or none was, which the answer tells, and nothing came to it
-- after that
abbrev pub AsksForFile : {F : Type 0} → (F → List ℕ → F → Type 0) → (F → List ℕ → F → Type 0) → F → List ℕ → F → Saving → Type 0
AsksForFile {F} creates refuses before name now saving = ((made : F) × creates before name made) ⊎ ((saving ≡ savings.Failed) × refuses before name now)

-- what the desk tells when the run begins: with the flag it keeps its history, and nothing was done yet
abbrev pub told_before : Bool → Option History → Option History
told_before true told = Some (record { acts = []; asked = [] })
told_before false told = told

-- the act is a note, taken or failed
abbrev pub is_note : Act → Bool
is_note (Note text) = true
is_note (NoteFault text) = true
is_note act = false

-- acts that stand newest first, without a note that came last
abbrev pub without_last_note : List Act → List Act
without_last_note [] = []
without_last_note (act ∷ past) = if is_note act then past else act ∷ past

-- what a file took grew by the text of these acts, and by nothing else
pub record TookText (before now : Option (List ℕ)) (acts : List Act) : Type 0 where
  pub text : List ℕ
  pub text_is : IsTextOf text acts
  pub took_is : now ≡ option_map (λ all. all ++ text) before

-- a journal was asked for
abbrev pub is_asked : Saving → Bool
is_asked savings.NotAsked = false
is_asked savings.Saved = true
is_asked savings.Failed = true
is_asked savings.Memory = true

-- the status of the run; where that is 0, the one of what became of the file
abbrev pub status_with : ℕ → Saving → ℕ
status_with (suc status) saving = suc status
status_with zero savings.NotAsked = 0
status_with zero savings.Saved = 0
status_with zero savings.Failed = 1
status_with zero savings.Memory = 2
