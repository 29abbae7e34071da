use Rattle.line_ends.proofs.Appended.{converted-joined}
use Rattle.line_ends.proofs.cuts_change_nothing.Goals as goal

pub returns : goal.returns
returns c = converted-joined c.args.how
