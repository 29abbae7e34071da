-- By what reaches the session of each history, told as a list of acts again.
use Rattle.relay_laws.proofs.Stories.{own_session}
use Rattle.relay_laws.proofs.frames.session_is_its_own.Goals as goal

pub returns : goal.returns
returns c = own_session
