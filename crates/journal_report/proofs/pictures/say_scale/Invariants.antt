use Rattle.journal_report.specs.Elements.{AddsElements}
use Rattle.journal_report.proofs.pictures.say_scale.Given as goal

abbrev pub invariant-loop-part : goal.invariant-loop-part
invariant-loop-part l = AddsElements l.initial.page l.page
