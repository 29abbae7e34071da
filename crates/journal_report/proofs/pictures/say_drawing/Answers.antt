use Rattle.journal_report.proofs.Pictured.{elements_added}
use Rattle.journal_report.proofs.pictures.say_drawing.Goals as goal

pub returns : goal.returns
returns c =
    elements_added _ _ _ c.in_ok-say_if_any.ensures (elements_added _ _ _ c.in_ok-say_marks.ensures c.in_ok-say_note.ensures)
