use Rattle.std.proofs.Common.{◌≡◌, ◌++◌, drop, reverse}
use Rattle.std.specs.List.{AllByRecursion}
use Rattle.journal_text.specs.Ranges.{IsAct}
use Rattle.journal_text.proofs.WritingLemmas.{lines_of, oldest}
use Rattle.journal_text.proofs.writing.write_front.Given as goal

abbrev pub invariant-loop-i : goal.invariant-loop-i
invariant-loop-i l = record {
  written : l.text.items ++ lines_of (drop l.i (reverse (oldest l.count l.journal.acts))) ≡ lines_of (reverse (oldest l.count l.journal.acts));
  each : AllByRecursion IsAct (drop l.i (reverse (oldest l.count l.journal.acts))) → AllByRecursion IsAct (reverse (oldest l.count l.journal.acts));
}
