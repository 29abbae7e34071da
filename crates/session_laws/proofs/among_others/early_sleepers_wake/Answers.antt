use Rattle.session_laws.proofs.Members.{early}
use Rattle.session_laws.proofs.among_others.early_sleepers_wake.Goals as goal

pub returns : goal.returns
returns c = early
