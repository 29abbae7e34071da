-- The outcome asks for the same events in the same order.
use Rattle.relay_session.proofs.Ended.{ended}
use Rattle.session_laws.proofs.one_session.cause_is_told.Goals as goal

pub returns : goal.returns
returns c = ended
