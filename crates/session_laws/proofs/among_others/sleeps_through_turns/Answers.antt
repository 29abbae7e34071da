use Rattle.session_laws.proofs.Members.{through_turns}
use Rattle.session_laws.proofs.among_others.sleeps_through_turns.Goals as goal

pub returns : goal.returns
returns c = through_turns
