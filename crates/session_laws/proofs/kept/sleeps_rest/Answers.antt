-- By cases of whether work is left.
use Rattle.session_laws.proofs.Others.{sleeps_rest}
use Rattle.session_laws.proofs.kept.sleeps_rest.Goals as goal

pub returns : goal.returns
returns c = sleeps_rest
