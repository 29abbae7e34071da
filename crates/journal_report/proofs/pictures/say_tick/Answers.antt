use Rattle.journal_report.proofs.Pictured.{elements_added}
use Rattle.journal_report.proofs.pictures.say_tick.Goals as goal

pub returns : goal.returns
returns c = elements_added _ _ _ c.in_ok-say_note.ensures c.in_ok-say_if_any.ensures
