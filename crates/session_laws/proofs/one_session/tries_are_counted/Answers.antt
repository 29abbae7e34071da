-- A try comes only where tries are left, so the last failure is the first that leaves none.
use Rattle.relay_session.proofs.Attempts.{counted}
use Rattle.session_laws.proofs.one_session.tries_are_counted.Goals as goal

pub returns : goal.returns
returns c = counted
