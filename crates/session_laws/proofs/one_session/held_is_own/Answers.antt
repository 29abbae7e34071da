-- Only the one session calls for anything.
use Rattle.relay_session.proofs.Held.{held_own}
use Rattle.session_laws.proofs.one_session.held_is_own.Goals as goal

pub returns : goal.returns
returns c = held_own
