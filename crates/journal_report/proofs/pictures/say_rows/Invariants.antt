use Rattle.journal_report.specs.Pictures.{AddsPictureRows}
use Rattle.journal_report.proofs.pictures.say_rows.Given as goal

abbrev pub invariant-loop-session : goal.invariant-loop-session
invariant-loop-session l = AddsPictureRows l.overview.config l.overview.acts l.session l.initial.page l.page
