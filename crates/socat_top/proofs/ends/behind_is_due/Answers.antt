use Rattle.socat_top.proofs.BehindLemmas.{behind}
use Rattle.socat_top.proofs.ends.behind_is_due.Goals as goal

pub returns : goal.returns
returns c = behind
