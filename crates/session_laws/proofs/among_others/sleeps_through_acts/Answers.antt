use Rattle.session_laws.proofs.Members.{through_acts}
use Rattle.session_laws.proofs.among_others.sleeps_through_acts.Goals as goal

pub returns : goal.returns
returns c = through_acts
