use Rattle.std.proofs.Common.{◌≡◌, ◌++◌}
use Rattle.journal_table.specs.Tables.{rows_below}
use Rattle.journal_table.proofs.tables.say_sessions.Given as goal

abbrev pub invariant-loop-session : goal.invariant-loop-session
invariant-loop-session l = l.page ≡ l.initial.page ++ rows_below l.overview.config l.overview.acts l.session
