-- What the auditor reports of what a source gives, and how it says so.
use Rattle.std.specs.Prelude.{◌≡◌, ℕ, ◌<◌, ◌≤◌, ◌++◌, List, [], length, codes, Option, option_map, IfSome}
use Rattle.std.specs.Fmt.{decimal}
use Rattle.port_trait.specs.{Rose, Loses}
use Rattle.std.specs.Io.KnownBytes.{Consumes, Appends, IsAtEnd}
use Rattle.journal_text.specs.{longest_text}
use Rattle.relay_model.specs.{newline}
use Rattle.relay_audit.specs.declared.verdicts.Verdict.{Verdict}
use Rattle.relay_audit.specs.declared.verdicts.Verdict.TheVariants.{Yes, BadLine, BadWords, Illegal}
use Rattle.relay_audit.specs.declared.reports.Report.{Report}
use Rattle.relay_audit.specs.declared.reports.Report.TheVariants.{TooLong, Found}
use Rattle.relay_audit.specs.Verdicts.{IsVerdictOf}

-- the report on a text: a text that is too long isn't looked at
abbrev pub IsReportOf : List (List ℕ) → ℕ → List ℕ → Report → Type 0
IsReportOf words n text TooLong = longest_text < length text
IsReportOf words n text (Found verdict) = (length text ≤ longest_text) × IsVerdictOf words n text verdict

-- the line that says yes, with the acts and the things held
abbrev pub yes_line : ℕ → ℕ → List ℕ
yes_line acts held = codes "yes: " ++ decimal acts ++ codes " acts, " ++ decimal held ++ (codes " held" ++ newline)

-- the line of a verdict
abbrev pub line_of_verdict : Verdict → List ℕ
line_of_verdict (Yes acts held) = yes_line acts held
line_of_verdict (BadLine number) = codes "no: line " ++ decimal number ++ newline
line_of_verdict BadWords = codes "no: words" ++ newline
line_of_verdict (Illegal act) = codes "no: act " ++ decimal act ++ newline

-- the line that says it
abbrev pub line_of : Report → List ℕ
line_of TooLong = codes "no: too long" ++ newline
line_of (Found verdict) = line_of_verdict verdict

-- the status of a verdict
abbrev pub status_of_verdict : Verdict → ℕ
status_of_verdict (Yes acts held) = 0
status_of_verdict (BadLine number) = 1
status_of_verdict BadWords = 1
status_of_verdict (Illegal act) = 1

-- the status that goes with it
abbrev pub status_of : Report → ℕ
status_of TooLong = 1
status_of (Found verdict) = status_of_verdict verdict

-- a text that was read to its end: the end was met, and nothing is left where that is told
abbrev pub ReadToEnd : Report → ℕ → ℕ → Option (List ℕ) → Type 0
ReadToEnd TooLong ends_before ends left = Unit {0}
ReadToEnd (Found verdict) ends_before ends left = Rose ends_before ends × IfSome left (λ rest. rest ≡ [])

-- a report was made on all that a source gave, the sink took its line and no more, and the status goes with it
pub record Reported (words : List (List ℕ)) (n : ℕ) (left_before left : Option (List ℕ)) (ends_before ends : ℕ) (took_before took : Option (List ℕ)) (status : ℕ) : Type 0 where
  pub text : List ℕ
  pub report : Report
  pub gave : Loses left_before left text
  pub right : IsReportOf words n text report
  pub ended : ReadToEnd report ends_before ends left
  pub said : took ≡ option_map (λ all. all ++ line_of report) took_before
  pub status_is : status ≡ status_of report

-- the reader beneath is at its end where a text was read to its end
abbrev pub ReadToEndBeneath : Report → Option (List ℕ) → Type 0
ReadToEndBeneath TooLong rest = Unit {0}
ReadToEndBeneath (Found verdict) rest = IsAtEnd rest

-- the same of a reader and a writer of std beneath the source and the sink, where their bytes are known
pub record ReportedBeneath (words : List (List ℕ)) (n : ℕ) (rest_before rest holds_before holds : Option (List ℕ)) (status : ℕ) : Type 0 where
  pub text : List ℕ
  pub report : Report
  pub gave : Consumes rest_before rest text
  pub right : IsReportOf words n text report
  pub ended : ReadToEndBeneath report rest
  pub said : Appends holds_before holds (line_of report)
  pub status_is : status ≡ status_of report
