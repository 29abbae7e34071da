-- A cause that is a failure stands by an event, or by a closing for it.
use Rattle.session_laws.proofs.Blames.{blamed_for}
use Rattle.session_laws.proofs.one_session.failure_is_blamed.Goals as goal

pub returns : goal.returns
returns c = blamed_for
