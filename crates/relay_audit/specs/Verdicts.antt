-- What an audit says of a text and of the words of a command.
use Rattle.std.specs.Prelude.{◌≡◌, ℕ, List, length, Ok}
use Rattle.relay_model.specs.{Config, Act, Legal, held_count}
use Rattle.journal_text.specs.{IsTextOf, IsFirstBadLine, kept}
use Rattle.cmd_words.specs.declared.commands.Command.TheVariants.{Relay}
use Rattle.cmd_words.specs.{MakesNoRelay, command}
use Rattle.relay_audit.specs.declared.verdicts.Verdict.{Verdict}
use Rattle.relay_audit.specs.declared.verdicts.Verdict.TheVariants.{Yes, BadLine, BadWords, Illegal}
use Rattle.relay_audit.specs.Judging.{IsFirstIllegal}

-- the text is that of these acts, as they are read from it
abbrev pub Reads : List ℕ → List Act → Type 0
Reads text history = IsTextOf text history × (history ≡ kept history)

-- the verdict on a history
abbrev pub IsVerdictOn : Config → ℕ → List Act → Verdict → Type 0
IsVerdictOn c n history (Yes acts held) = Legal c n history × (acts ≡ length history) × (held ≡ held_count c history)
IsVerdictOn c n history (Illegal act) = IsFirstIllegal c n history act
IsVerdictOn c n history (BadLine number) = ⊥
IsVerdictOn c n history BadWords = ⊥

-- the verdict on a text
abbrev pub IsVerdictFor : Config → ℕ → List ℕ → Verdict → Type 0
IsVerdictFor c n text (BadLine number) = IsFirstBadLine text number
IsVerdictFor c n text verdict = (history : List Act) × Reads text history × IsVerdictOn c n history verdict

-- the verdict on a text and the words of its command: of the causes that stand together the words come first, then
-- the lines, then the acts
abbrev pub IsVerdictOf : List (List ℕ) → ℕ → List ℕ → Verdict → Type 0
IsVerdictOf words n text BadWords = MakesNoRelay words
IsVerdictOf words n text verdict = (c : Config) × (command words ≡ Ok (Relay c)) × IsVerdictFor c n text verdict

-- no text has two verdicts
abbrev pub OneVerdict : Type 0
OneVerdict = (words : List (List ℕ)) (n : ℕ) (text : List ℕ) (one other : Verdict) → IsVerdictOf words n text one → IsVerdictOf words n text other → one ≡ other
