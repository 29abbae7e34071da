use Rattle.journal_report.specs.Timelines.{AddsRows}
use Rattle.journal_report.proofs.timelines.say_lines.Given as goal

abbrev pub invariant-loop-session : goal.invariant-loop-session
invariant-loop-session l = AddsRows l.overview.config l.overview.acts l.session l.initial.page l.page
