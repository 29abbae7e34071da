use Rattle.journal_report.specs.Timelines.{AddsCells}
use Rattle.journal_report.proofs.timelines.say_signs.Given as goal

abbrev pub invariant-loop-column : goal.invariant-loop-column
invariant-loop-column l = AddsCells l.column l.initial.page l.page
