use Rattle.std.proofs.Common.{◌≡◌, ◌≤◌, ◌*◌, length}
use Rattle.relay_model.specs.Sessions.{numbers}
use Rattle.journal_report.proofs.charts.chart_of.Given as goal

abbrev pub invariant-loop-k : goal.invariant-loop-k
invariant-loop-k l = (l.chart.columns ≡ l.columns) × (length l.chart.marks.items ≡ numbers l.overview.config l.overview.acts * l.columns) × (l.k ≤ length l.all)

abbrev pub decreases-loop-k : goal.decreases-loop-k
decreases-loop-k l = l.k
