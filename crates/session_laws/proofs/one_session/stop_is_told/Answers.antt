-- A closing for a stop comes after one that was said, or at the last turn.
use Rattle.session_laws.proofs.Stops.{stop_told}
use Rattle.session_laws.proofs.one_session.stop_is_told.Goals as goal

pub returns : goal.returns
returns c = stop_told
