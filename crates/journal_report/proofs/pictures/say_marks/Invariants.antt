use Rattle.journal_report.specs.Elements.{AddsElements}
use Rattle.journal_report.proofs.pictures.say_marks.Given as goal

abbrev pub invariant-loop-column : goal.invariant-loop-column
invariant-loop-column l = AddsElements l.initial.page l.page
