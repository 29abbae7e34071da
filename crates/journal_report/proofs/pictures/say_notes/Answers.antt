use Rattle.journal_report.proofs.Pictured.{elements_added}
use Rattle.journal_report.proofs.pictures.say_notes.Goals as goal

pub returns : goal.returns
returns c = elements_added _ _ _ c.in_ok-say_scale.ensures c.in_ok-say_note.ensures
