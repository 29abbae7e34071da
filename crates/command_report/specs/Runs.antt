-- What the program makes of its words.
use Rattle.std.specs.Prelude.{◌≡◌, ℕ, List, [], ◌∷◌, ◌++◌, codes, nat_eq, Option, option_map, Result, Ok, Err, if◌then◌else◌}
use Rattle.std.specs.List.{starts_with}
use Rattle.cmd_words.specs.{Command, CommandFault, command}
use Rattle.cmd_words.specs.declared.faults.CommandFault.TheVariants as faults
use Rattle.std.specs.Io.KnownBytes.{Appends}
use Rattle.place_report.specs.{IsPrintable, EndsLine}
use Rattle.command_report.specs.Reports.{Tells}
use Rattle.command_report.specs.Refusals.{RefusalTold}

-- the words of a run stand behind one that asks for a written journal
abbrev pub words_of_run : List (List ℕ) → List (List ℕ)
words_of_run [] = []
words_of_run (word ∷ words) = if starts_with nat_eq word (codes "--journal=") then words else word ∷ words

-- the report on what words make, and the status that goes with it
abbrev pub IsReportOn : List (List ℕ) → Result Command CommandFault → List ℕ → ℕ → Type 0
IsReportOn words (Ok made) text status = Tells made text × (status ≡ 0)
IsReportOn words (Err (faults.Refused refused)) text status = RefusalTold words refused text × (status ≡ 1)
IsReportOn words (Err faults.Memory) text status = ⊥

-- the same with what holds of each report: printable bytes and whole lines
pub record IsReport (words : List (List ℕ)) (text : List ℕ) (status : ℕ) : Type 0 where
  pub right : IsReportOn words (command words) text status
  pub printable : IsPrintable text
  pub whole : EndsLine text

-- a sink took the report on the words of the run, and no more
pub record Explained (words : List (List ℕ)) (took_before took : Option (List ℕ)) (status : ℕ) : Type 0 where
  pub text : List ℕ
  pub report : IsReport (words_of_run words) text status
  pub said : took ≡ option_map (λ all. all ++ text) took_before

-- the same of a writer of std beneath the sink, where its bytes are known
pub record ExplainedBeneath (words : List (List ℕ)) (holds_before holds : Option (List ℕ)) (status : ℕ) : Type 0 where
  pub text : List ℕ
  pub report : IsReport (words_of_run words) text status
  pub said : Appends holds_before holds text
