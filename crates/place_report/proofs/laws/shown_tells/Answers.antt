use Rattle.place_report.proofs.Telling as telling
use Rattle.place_report.proofs.laws.shown_tells.Goals as goal

pub returns : goal.returns
returns c = telling.shown_tells
