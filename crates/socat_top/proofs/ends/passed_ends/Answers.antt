use Rattle.socat_top.proofs.EndLemmas.{ends}
use Rattle.socat_top.proofs.ends.passed_ends.Goals as goal

pub returns : goal.returns
returns c = ends
