use Rattle.place_report.proofs.Growing.{grown_by_six}
use Rattle.journal_table.proofs.tables.say_row.Goals as goal

pub returns : goal.returns
returns c =
    grown_by_six _ _ _ _ _ _ _ _ _ _ _ _ _ c.in_ok-say_visit.ensures c.in_ok-say_passage.ensures c.in_ok-say_passage-2.ensures c.in_ok-say_left.ensures c.in_ok-say_why.ensures c.in_ok-end_line.ensures
