-- What a text is: that of a list of acts, or one with a line that no act spells. Lists of acts stand newest first.
use Rattle.std.specs.Prelude.{◌≡◌, ◌≢◌, ℕ, ◌+◌, List, [], ◌++◌, length, map, Result, Ok, Err}
use Rattle.std.specs.List.{AllByRecursion}
use Rattle.relay_model.specs.{Act, copied_act, Story}
use Rattle.journal_text.specs.Lines.{line_of, spelt}
use Rattle.journal_text.specs.Ranges.{IsAct}
use Rattle.journal_text.specs.declared.faults.JournalFault.{JournalFault}
use Rattle.journal_text.specs.declared.faults.JournalFault.TheVariants.{Line, Memory}

-- the text is that of these acts
pub record IsTextOf (text : List ℕ) (acts : List Act) : Type 0 where
  pub each : AllByRecursion IsAct acts
  pub spelling : text ≡ spelt acts

-- the text doesn't begin with the line of an act
abbrev pub BeginsWithNoAct : List ℕ → Type 0
BeginsWithNoAct text = (a : Act) (rest : List ℕ) → IsAct a → text ≢ line_of a ++ rest

-- the lines before this one, counted from 1, are acts, and this one is none: another text or an unfinished line
pub record IsFirstBadLine (text : List ℕ) (number : ℕ) : Type 0 where
  pub before : List Act
  pub rest : List ℕ
  pub each : AllByRecursion IsAct before
  pub count : number ≡ length before + 1
  pub whole : text ≡ spelt before ++ rest
  pub some : rest ≢ []
  pub bad : BeginsWithNoAct rest

-- these acts as a journal keeps them: each turn has room for what it names alone
abbrev pub kept : List Act → List Act
kept acts = map copied_act acts

-- what a fault says of the text
abbrev pub IsFaultOf : List ℕ → JournalFault → Type 0
IsFaultOf text (Line number) = IsFirstBadLine text number
IsFaultOf text Memory = Unit {0}

-- the answer is these acts, or that no memory was found
abbrev pub IsActsOrMemory : List Act → Result Story JournalFault → Type 0
IsActsOrMemory acts (Ok journal) = journal.acts ≡ kept acts
IsActsOrMemory acts (Err (Line number)) = ⊥
IsActsOrMemory acts (Err Memory) = Unit {0}

-- the answer is this line, or that no memory was found
abbrev pub IsLineOrMemory : ℕ → Result Story JournalFault → Type 0
IsLineOrMemory number (Ok journal) = ⊥
IsLineOrMemory number (Err (Line other)) = other ≡ number
IsLineOrMemory number (Err Memory) = Unit {0}
