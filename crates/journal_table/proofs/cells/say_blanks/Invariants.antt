use Rattle.std.proofs.Common.{◌≡◌, ◌++◌}
use Rattle.journal_table.specs.Cells.{blanks}
use Rattle.journal_table.proofs.cells.say_blanks.Given as goal

abbrev pub invariant-loop-blank : goal.invariant-loop-blank
invariant-loop-blank l = l.page ≡ l.initial.page ++ blanks l.blank
