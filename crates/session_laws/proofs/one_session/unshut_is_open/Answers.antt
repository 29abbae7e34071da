-- Only a shut leaves an open thing shut down.
use Rattle.relay_session.proofs.Standings.{open_where_unshut}
use Rattle.session_laws.proofs.one_session.unshut_is_open.Goals as goal

pub returns : goal.returns
returns c = open_where_unshut
