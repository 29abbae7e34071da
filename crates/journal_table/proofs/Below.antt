-- One blank more, and one row more.
use Rattle.std.proofs.Common.{◌≡◌, ℕ, ◌+◌, List, ◌++◌, add-one, ap}
use Rattle.relay_model.specs.declared.commands.Config.{Config}
use Rattle.relay_model.specs.declared.acts.Act.{Act}
use Rattle.place_report.specs.Shown.{said}
use Rattle.journal_table.specs.Cells.{blanks}
use Rattle.journal_table.specs.Tables.{rows_below, session_line}

pub blanks_more : (k : ℕ) → blanks (k + 1) ≡ blanks k ++ said " "
blanks_more k = ap blanks (add-one k)

pub rows_below_more : (c : Config) (past : List Act) (k : ℕ) → rows_below c past (k + 1) ≡ rows_below c past k ++ session_line c past k
rows_below_more c past k = ap (rows_below c past) (add-one k)
