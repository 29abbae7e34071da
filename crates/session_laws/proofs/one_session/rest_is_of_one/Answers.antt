-- The program door and the next session rest, since neither has begun.
use Rattle.relay_session.proofs.Waiting.{rest_of}
use Rattle.session_laws.proofs.one_session.rest_is_of_one.Goals as goal

pub returns : goal.returns
returns c = rest_of
